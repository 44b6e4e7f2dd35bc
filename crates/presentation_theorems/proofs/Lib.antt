-- elements in the words of the stages
pub mod Elements
-- a walk that keeps what stood before passes lists without a repeat
pub mod NoneTwice
-- stage 3: EF.COM is read exactly when its encoding stands there
pub mod EfCom
-- stage 4: one entry
pub mod ObjectEntry
-- stage 4: the list of entries
pub mod ObjectEntries
-- stage 4: what stands behind it, in either version
pub mod StringsBehind
-- stage 4 as a whole
pub mod SecurityObject
-- after stage 4: EF.COM and the object agree
pub mod VersionsAgree
-- stage 2: the group files
pub mod GroupFiles
-- stage 5: each file listed, lent once, and signed
pub mod FilesSigned
-- stage 6: group 1 and its text
pub mod GroupOne
-- stage 5: that no group is lent twice
pub mod LentOnce
-- stages 1 and 2
pub mod OuterWalk
-- DEMAND 2: accepted exactly when it is the encodings of what belongs together (`presented_exactly`)
pub mod Acceptance
-- DEMAND 2: the file of a group (`group_stretch_lem` and what is around it)
pub mod GroupFile
-- DEMAND 2: every accepted text is carried by an accepted presentation (`every_text_carried`)
pub mod TextsCarried
-- contents that belong together keep the two limits that nothing reaches (`presented_few`)
pub mod Few
-- no two contents have the same octets (`octets_tell`)
pub mod ContentsByOctets
-- reading a presentation is finding its text and reading it (`through_text`)
pub mod ThroughText
-- what every refusal before the text has
pub mod Refusals
-- DEMAND 2: the digit that a refusal 9 carries is the text's (`expected_carried`, `presentation_nine`); DEMAND 1: its number and
-- its place (`presentation_numbered`, `presentation_within`)
pub mod Expected
-- stage 3 as rows
pub mod EfComRows
-- stage 4 as rows
pub mod ObjectRows
-- stages 2 and 5 as rows
pub mod FilesRows
-- stage 6 as rows
pub mod GroupOneRows
-- DEMAND 2: the answer is the first failing check (`presentation_refused_exactly`)
pub mod FirstFailing
