-- What a C host may rely on of `lamphudet_read_seal`: every call is told in one of two ways, and the entries of two accepted
-- calls begin alike exactly when house, form, state, whole number, birth and expiry agree.
use Prim.Native.Nat.{ℕ}
use mathlib.Core.Path.{◌≡◌, refl}
use mathlib.Core.List.{List, ◌++◌}
use lib.ListN.{drop}
use Rattle.refusal.specs.Numbers.{Why, no_digit, number_of, expected_of}
use Rattle.refusal.specs.Length as told
use Rattle.refusal.specs.Length.{Length}
use Rattle.entry.specs.Entry.{entry_of, size}
use Rattle.entry.specs.Entered.{entered_answer}
use Rattle.entry.proofs.Entered.{Enters, entered, entered_only, not_entered}
use Rattle.seal_header.specs.Header.{blank_header}
use Rattle.seal.specs.Seal.{read_seal}
use Rattle.lamphudet_seals.specs.Answer.{fields_in_c, seal_in_c, read_seal_in_c, read_seal_out}

module _ (house : ℕ) (s out : List ℕ) where
  -- the seal is accepted, the house is one and the range has room
  abbrev pub Kept : Type 0
  Kept = Enters (read_seal s).outcome house (read_seal s).kept out

  abbrev octets : ℕ
  octets = size (read_seal s).kept

  abbrev answer : Length
  answer = entered_answer (read_seal s).outcome house (read_seal s).kept out

  -- 0, how many octets, header and signature, and the entry in front of the range; or a refusal over blank fields, and nothing is
  -- changed
  pub data Told : Type 0 where
    kept : Kept → read_seal_in_c house s out ≡ fields_in_c 0 no_digit octets (read_seal s).header (read_seal s).signature
        → read_seal_out house s out ≡ entry_of house (read_seal s).kept ++ drop octets out → Told
    denied : (why : Why) (place : ℕ)
        → read_seal_in_c house s out
        ≡ fields_in_c (number_of why) (expected_of why) place blank_header (record { from = 0; to = 0 })
        → read_seal_out house s out ≡ out → Told

  pub seal_told : Told
  unfolding read_seal_in_c read_seal_out seal_in_c
  seal_told = go answer refl
    where
      go : (a : Length) → answer ≡ a → Told
      go (told.written n) e =
          let h = entered_only house (read_seal s).kept out (read_seal s).outcome n e in
          let w = entered house (read_seal s).kept out (read_seal s).outcome h in
          kept h (rw w.0) w.1
      go (told.refused why place) e =
          denied why place (rw e) (not_entered house (read_seal s).kept out (read_seal s).outcome why place e)
