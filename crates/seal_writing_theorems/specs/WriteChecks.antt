-- The checks of a seal that is to be written one after the other, a row for each sentence that can refuse: document 02, request
-- 2026-13, "in that order, each at place 0". Which of them a refusal names is `FirstFailing` (text_theorems).
use Rattle.std.specs.Prelude.{ℕ, List, [], ◌∷◌, eqb, leb, length, take, drop}
use Rattle.refusal.specs.Outcome.{Outcome, unless}
use Rattle.zone.specs.Alphabet.{is_filler, every}
use Rattle.zone.specs.declared.record.Record.{Record}
use Rattle.field.specs.Letters.{state_rule}
use Rattle.sound.specs.Sound.{is_sound}
use Rattle.seal_fields.specs.Day.{is_day}
use Rattle.seal_fields.specs.Hex.{is_hex}
use Rattle.seal_header.specs.declared.header.Header.{Header}
use Rattle.seal_writing.specs.Carried.{is_shaped, is_signer}
use Rattle.seal_writing.specs.Seal.{seal_octets, is_td2}

-- "a header field that version 03 cannot carry": fields as wide as the header has them, which in C the struct says; version,
-- definition reference, category, country, signer, certificate reference, nothing past its length, the two days
unfoldable pub header_checks : Header → List Outcome
header_checks h =
    unless (is_shaped h) 28 0
    ∷ unless (eqb h.version 0x03) 28 0
    ∷ unless (eqb h.definition 0x5E) 28 0
    ∷ unless (eqb h.category 0x03) 28 0
    ∷ unless (state_rule h.country) 28 0
    ∷ unless (is_signer h.signer) 28 0
    ∷ unless (every is_hex (take h.reference_len h.reference)) 28 0
    ∷ unless (every is_filler (drop h.reference_len h.reference)) 28 0
    ∷ unless (is_day h.issued) 28 0
    ∷ unless (is_day h.signed_on) 28 0
    ∷ []

-- "a signature that would take the seal over 65,535 octets", and "16 for a short output"
unfoldable pub size_checks : Header → Record → (signature out : List ℕ) → List Outcome
size_checks h r g out =
    unless (leb (length (seal_octets h r g)) 65535) 28 0
    ∷ unless (leb (length (seal_octets h r g)) (length out)) 16 0
    ∷ []

-- "17 for an unsound or non-TD2 record"
unfoldable pub record_checks : Record → List Outcome
record_checks r = unless (is_td2 r.form) 17 0 ∷ unless (is_sound r) 17 0 ∷ []
