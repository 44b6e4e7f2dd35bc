-- Tags as document 01 names them, "Stages of a presentation".
use Rattle.std.specs.Prelude.{ℕ, ◌-◌, Bool, cond, not, ◌&&◌, eqb, leb}

-- "tag 60, tag 30, then group tags only"
abbrev pub ef_com : ℕ
ef_com = 0x60

abbrev pub sequence : ℕ
sequence = 0x30

-- "5F01 of length 4, `0107`; 5F36 of length 6, six digits; 5C, the tag list"
abbrev pub lds_version : ℕ
lds_version = 0x5F01

abbrev pub unicode_version : ℕ
unicode_version = 0x5F36

abbrev pub tag_list : ℕ
tag_list = 0x5C

-- "a one-octet integer 1-16 and an octet string of 32" (DER)
abbrev pub integer : ℕ
integer = 0x02

abbrev pub octet_string : ℕ
octet_string = 0x04

-- "a sequence of two printable strings" (document 02, 2026-04; DER)
abbrev pub printable_string : ℕ
printable_string = 0x13

-- "5F1F and the text, exactly filling 61"
abbrev pub text : ℕ
text = 0x5F1F

abbrev pub group1 : ℕ
group1 = 0x61

-- "Tags, groups 1 to 16: 61 75 63 76 65 none 67 68 69 6A 6B 6C 6D 6E 6F 70": the group of a tag, 0 where it is no group's. Group
-- 6 is reserved and has none.
unfoldable pub group_of : ℕ → ℕ
group_of tag =
    cond (eqb tag 0x61) 1 (cond (eqb tag 0x75) 2 (cond (eqb tag 0x63) 3 (cond (eqb tag 0x76) 4 (cond (eqb tag 0x65) 5
    (cond (leb 0x67 tag && leb tag 0x70) (tag - 0x60) 0)))))

unfoldable pub is_group : ℕ → Bool
is_group tag = not (eqb (group_of tag) 0)
