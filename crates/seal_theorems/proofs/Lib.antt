-- what stands at a place, and what behind it
pub mod Places
-- the signer and the certificate reference
pub mod References
-- the checks of a header, and what each says
pub mod HeadChecks
-- a header that passes its checks stands there
pub mod HeadThere
-- a header that stands there passes its checks and is read; both (`header_exactly`)
pub mod HeadRead
-- the features that are walked stand there
pub mod FeaturesFound
-- the features that stand there are walked
pub mod FeaturesWalked
-- feature 02 is the image of its text
pub mod TextFeature
-- the signature zone is read exactly where its encoding stands last
pub mod SignatureRead
-- a seal's zones are found, and then its text is read (`through_text`); what each stage gave
pub mod Stages
-- accepted exactly when it is the encodings of what keeps every rule (`sealed_exactly`), and the whole answer is then theirs
-- (`sealed_contents`, `sealed_answer`)
pub mod Acceptance
-- the octets of a seal tell its contents (`seal_octets_tell`)
pub mod ContentsByOctets
-- every text of 72 characters that is accepted in a seal is carried by an accepted seal (`every_text_sealed`)
pub mod TextsSealed
-- the record of an accepted seal is an accepted text's (`seal_held`), and so sound (`seal_sound`)
pub mod SealRecord
-- no second answer (`only_seal`, `only_header`, `only_features`), and what every refusal gives (`seal_blank`)
pub mod OneAnswer
-- a seal's text has a text's characters, so that it is never refused by 2 (`filled_numbered`)
pub mod TextCharacters
-- a text that begins with V is 3 (`text_leading_v`, `seal_leading_v`)
pub mod LeadingV
-- the answer is the first failing check (`seal_refused_exactly`)
pub mod FirstFailing
-- the rows that decode, each by what stands there (`country_row`, `reference_row`, `day_row`, `image_row`, `text_row`)
pub mod RowsStand
-- what a C host may rely on: every call is told in one of two ways (`seal_told`)
pub mod AtTheBorder
-- the examples of the papers hold (`printed_hold`)
pub mod Printed
-- source 002's section 8 is read (`printed_read`)
pub mod PrintedSeal
-- what every refusal before the text has
pub mod Refusals
-- refused by 9 with a digit exactly where the text is (`seal_expected`, `seal_expected_of`, `seal_nine`); DEMAND 1: every
-- refusal's number and place (`seal_numbered`, `seal_within`)
pub mod Expected
-- the numbers that C receives of a seal (`read_seal_exactly` and the others)
pub mod NumbersInC
-- AT THE C BORDER, what is shown of octets, of every call (`seal_call_exactly`)
pub mod Promised
