-- The answer that C receives: a number, an expected digit and a value (document 01, "What the server lends and gets": plain calls
-- on numbers and byte ranges; document 02, 2026-07: "Every other refusal, and a success at the C host, has 255 there").
use Rattle.std.specs.Prelude.{ℕ}
use Rattle.refusal.specs.Numbers.{Why, no_digit, number_of, expected_of}
use Rattle.refusal.specs.Length.{Length, written, refused}
use Rattle.border.specs.declared.received.AnswerInC.{AnswerInC}

-- not refused: 0, and a value
abbrev pub not_refused : ℕ → AnswerInC
not_refused n = record { number = 0; expected = no_digit; value = n }

-- the refusal's number, its expected digit and its place
abbrev pub refused_in_c : Why → ℕ → AnswerInC
refused_in_c why place = record { number = number_of why; expected = expected_of why; value = place }

-- how many octets were written, or the refusal
unfoldable pub in_c : Length → AnswerInC
in_c (written n) = not_refused n
in_c (refused why place) = refused_in_c why place
