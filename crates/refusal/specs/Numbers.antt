-- Why something is refused, in the paper's numbers: 1 to 18 in document 01, "Refusal numbers"; 19 in document 02, 2026-04, 20 in
-- its 2026-01, 21 and 22 in its 2026-10, 23 in its 2026-14, 24 to 27 in its 2026-08, 28 in its 2026-13.
use Rattle.std.specs.Prelude.{ℕ}
use Rattle.refusal.specs.declared.Cause.{Cause}

-- by one of the paper's numbers; or by 9 with the digit that the check worked out, which no other number has (document 02,
-- 2026-07)
pub data Why : Type 0 where
  by : (number : ℕ) → Why
  expecting : (digit : ℕ) → Why

abbrev pub why_of : Cause → Why
why_of Cause.Length = by 1
why_of Cause.Character = by 2
why_of Cause.Code = by 3
why_of Cause.State = by 4
why_of Cause.Number = by 5
why_of Cause.Date = by 6
why_of Cause.Sex = by 7
why_of Cause.Name = by 8
why_of (Cause.Digit digit) = expecting digit
why_of Cause.Encoding = by 10
why_of Cause.EfCom = by 11
why_of Cause.SecurityObject = by 12
why_of Cause.Algorithm = by 13
why_of Cause.Group = by 14
why_of Cause.Digest = by 15
why_of Cause.Output = by 16
why_of Cause.Unsound = by 17
why_of Cause.Entry = by 18
why_of Cause.Versions = by 19
why_of Cause.Details = by 20
why_of Cause.Depth = by 21
why_of Cause.Templates = by 22
why_of Cause.Order = by 23
why_of Cause.SealHeader = by 24
why_of Cause.SealFeature = by 25
why_of Cause.SealText = by 26
why_of Cause.SealSignature = by 27
why_of Cause.SealInput = by 28

abbrev pub number_of : Why → ℕ
number_of (by number) = number
number_of (expecting digit) = 9

-- "Every other refusal, and a success at the C host, has 255 there."
abbrev pub no_digit : ℕ
no_digit = 255

abbrev pub expected_of : Why → ℕ
expected_of (by number) = no_digit
expected_of (expecting digit) = digit
