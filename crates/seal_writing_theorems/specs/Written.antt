-- What a seal that is written is, said with the encoders of seals that are read, and what reading it gives: document 02, 2026-13,
-- "A seal written is read back as what was given, and two different sets of inputs never give the same octets."
use Rattle.std.specs.Prelude.{ℕ, ◌-◌, ◌≤◌, ◌≡◌, true, List, [], length}
use Rattle.refusal.specs.Outcome.{passed}
use Rattle.zone.specs.declared.record.Record.{Record}
use Rattle.zone.specs.declared.form.Form.TheVariants.{Td2}
use Rattle.sound.specs.Sound.{is_sound}
use Rattle.writing.specs.Text.{text_of}
use Rattle.seal_fields.specs.Spaces.{spaced}
use Rattle.seal_header.specs.declared.header.Header.{Header}
use Rattle.seal.specs.Seal.{SealAnswer}
use Rattle.seal_theorems.specs.Sealed.{Contents}
use Rattle.seal_writing.specs.Carried.{Carried}
use Rattle.seal_writing.specs.Seal.{head_of, seal_octets, seal_check}

-- header, record and signature that are not refused
unfoldable pub IsAccepted : Header → Record → List ℕ → Type 0
IsAccepted h r g = seal_check h r g ≡ passed

-- every rule: "a sound TD2 record", a header that version 03 can carry, and a seal of no more than 65,535 octets
pub record Given (h : Header) (r : Record) (g : List ℕ) : Type 0 where
  pub carried : Carried h
  pub td2 : r.form ≡ Td2
  pub sound : is_sound r ≡ true
  pub size : length (seal_octets h r g) ≤ 65535

-- its contents: feature 02 is the only one
unfoldable pub contents_of : Header → Record → (signature : List ℕ) → Contents
contents_of h r g = record { head = head_of h; before = []; text = spaced (text_of r); behind = []; signature = g }

-- what reading it gives: header and record as they were given, and where the signature stands, at the end
unfoldable pub given_back : Header → Record → (signature : List ℕ) → SealAnswer
given_back h r g = record {
  outcome = passed;
  header = h;
  kept = r;
  signature = record { from = length (seal_octets h r g) - length g; to = length (seal_octets h r g) };
}
