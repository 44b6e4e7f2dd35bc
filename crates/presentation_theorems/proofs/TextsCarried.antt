-- DEMAND 2 is not empty for presentations: in either version every accepted text is carried by bytes that are accepted, with the
-- text's own record.
-- So no reader that refuses everything, or always hands out the same record, meets it.
use Prim.Native.Nat.{ℕ, ◌+◌, ◌≤◌}
use mathlib.Core.Path.{◌≡◌, refl, sym, subst}
use mathlib.Core.Logic.{inl, inr}
use mathlib.Core.Bool.{Bool, true, false, cond}
use mathlib.Core.List.{List, [], ◌∷◌, ◌++◌}
use native.Mathlib.Omega.{arith}
use lib.ListN.{length, length-append, replicate}
use Rattle.refusal.specs.Outcome.{passed}
use Rattle.zone.specs.declared.form.Source.TheVariants.{GroupOne}
use Rattle.zone.specs.Form.{may_stand}
use Rattle.zone.specs.declared.form.Form.{Form}
use Rattle.zone.specs.Alphabet.{is_digit, every}
use Rattle.text.specs.Read.{read_text}
use Rattle.sha256.specs.Hash.{sha256}
use Rattle.sha256.proofs.DigestLength.{digest_length}
use Rattle.tlv.specs.Element.{tlv}
use Rattle.tlv.proofs.Encoded.{length-tlv, most_head}
use Rattle.lent.specs.Octets.{stands}
use Rattle.tlv.specs.Tags.{group_of, is_group}
use Rattle.object.specs.Object.{sha256_name}
use Rattle.chip.specs.Presentation.{read_presentation}
use Rattle.text_theorems.specs.Accepted.{Keeps}
use Rattle.presentation_theorems.specs.Presented.{Signed, Lent, lds_of, common_inside, common_of, signed_of, all_signed}
use Rattle.presentation_theorems.specs.Presented.{algorithm_of, strings_of, object_inside, object_of, file_of, all_lent}
use Rattle.presentation_theorems.specs.Presented.{octets_of, IsIn, is_once, numbers}
use Rattle.presentation_theorems.specs.Presented.{tags_of, EntryKept, FileKept, Presented, around}
use Rattle.text_theorems.proofs.Acceptance.{accepted_exactly}
use Rattle.presentation_theorems.proofs.Acceptance.{presented_text}
use Rattle.zone.proofs.Widths.{total_le}

-- ---- lengths

most_tlv : (tag : ℕ) (c : List ℕ) (n : ℕ) → length c ≤ n → length (tlv tag c) ≤ 5 + n
most_tlv tag c n h = omega (arith, length-tlv tag c, most_head tag (length c))

most_append : (a b : List ℕ) (m n : ℕ) → length a ≤ m → length b ≤ n → length (a ++ b) ≤ m + n
most_append a b m n h k = let e = length-append a b in omega arith

most_lds : (newer : Bool) → length (lds_of newer) ≤ 4
unfolding lds_of
most_lds true = omega arith
most_lds false = omega arith

module _ (newer : Bool) (t : List ℕ) where
  most_common : length (common_of (around newer t)) ≤ 31
  unfolding common_of common_inside around
  most_common =
      most_tlv 0x60 _ 26
      (most_append (tlv 0x5F01 (lds_of newer)) _ 9 17 (most_tlv 0x5F01 (lds_of newer) 4 (most_lds newer))
      (most_append (tlv 0x5F36 (0x30 ∷ 0x34 ∷ 0x30 ∷ 0x30 ∷ 0x30 ∷ 0x30 ∷ [])) _ 11 6 (most_tlv 0x5F36 _ 6 (omega arith))
      (most_tlv 0x5C (0x61 ∷ []) 1 (omega arith))))

most_signed : (e : Signed) → length e.digest ≡ 32 → length (signed_of e) ≤ 0x30
unfolding signed_of
most_signed e h =
    most_tlv 0x30 _ 43
    (most_append (tlv 0x02 (e.number ∷ [])) (tlv 0x04 e.digest) 6 37 (most_tlv 2 (e.number ∷ []) 1 (omega arith))
    (most_tlv 4 e.digest 32 (omega arith)))

most_strings : (newer : Bool) (lds unicode : List ℕ) → length lds ≤ 4 → length unicode ≤ 6
    → length (strings_of newer lds unicode) ≤ 25
unfolding strings_of
most_strings false lds unicode h k = omega arith
most_strings true lds unicode h k =
    most_tlv 0x30 _ 20 (most_append (tlv 0x13 lds) (tlv 0x13 unicode) 9 11 (most_tlv 0x13 lds 4 h) (most_tlv 0x13 unicode 6 k))

module _ (newer : Bool) (t : List ℕ) where
  most_object : length (object_of (around newer t)) ≤ 0x99
  unfolding object_of object_inside around all_signed algorithm_of sha256_name
  most_object =
      let file = file_of (record { tag = 0x61; content = tlv 0x5F1F t }) in
      let one : Signed = record { number = 1; digest = sha256 file } in
      let two : Signed = record { number = 2; digest = replicate 32 0 } in
      let list = signed_of one ++ (signed_of two ++ []) in
      most_tlv 0x30 _ 0x94
      (most_append (tlv 0x02 (cond newer 1 0 ∷ [])) _ 6 0x8E (most_tlv 2 (cond newer 1 0 ∷ []) 1 (omega arith))
      (most_append (tlv 0x30 sha256_name) _ 16 0x7E (most_tlv 0x30 sha256_name 11 (omega arith))
      (most_append (tlv 0x30 list) _ 0x65 25
      (most_tlv 0x30 list 0x60
      (most_append (signed_of one) (signed_of two ++ []) 0x30 0x30 (most_signed one (digest_length file))
      (most_append (signed_of two) [] 0x30 0 (most_signed two refl) (omega arith))))
      (most_strings newer (lds_of newer) (0x30 ∷ 0x34 ∷ 0x30 ∷ 0x30 ∷ 0x30 ∷ 0x30 ∷ []) (most_lds newer) (omega arith)))))

  most_file : length t ≤ 90 → length (all_lent (around newer t).lent) ≤ 100
  unfolding around all_lent file_of
  most_file h = most_append (tlv 0x61 (tlv 0x5F1F t)) [] 100 0 (most_tlv 0x61 (tlv 0x5F1F t) 95 (most_tlv 0x5F1F t 90 h))
      (omega arith)

  most_octets : length t ≤ 90 → length (octets_of (around newer t)) ≤ 65535
  unfolding octets_of
  most_octets h =
      let p = around newer t in
      let all = most_append (common_of p) (object_of p ++ all_lent p.lent) 31 253 (most_common newer t)
      (most_append (object_of p) (all_lent p.lent) 0x99 100 most_object (most_file h)) in
      omega arith

-- ---- every accepted text is carried

entries_kept : (newer : Bool) (t : List ℕ) (e : Signed) → IsIn e (around newer t).entries → EntryKept e
unfolding around IsIn
entries_kept newer t e (inl h) =
    let file = file_of (record { tag = 0x61; content = tlv 0x5F1F t }) in
    subst EntryKept (sym h) (record { number_least = omega arith; number_most = omega arith; digest_octets = digest_length file })
entries_kept newer t e (inr (inl h)) = subst EntryKept (sym h)
    (record { number_least = omega arith; number_most = omega arith; digest_octets = refl })
entries_kept newer t e (inr (inr k)) = absurd k

files_kept : (newer : Bool) (t : List ℕ) (f : Lent) → IsIn f (around newer t).lent
    → FileKept (around newer t).tags (around newer t).entries f
unfolding around IsIn is_group group_of stands
files_kept newer t f (inl h) = subst (FileKept (around newer t).tags (around newer t).entries) (sym h)
    (record { of_group = refl; listed = refl; signed = inl refl })
files_kept newer t f (inr k) = absurd k

around_presented : (newer : Bool) (t : List ℕ) → length t ≤ 90 → (f : Form) × (may_stand GroupOne f ≡ true) × Keeps f t
    → Presented (around newer t)
unfolding around IsIn is_once numbers tags_of stands is_group group_of every is_digit
around_presented newer t small k = record {
  size = most_octets newer t small;
  digits_six = refl;
  digits_only = refl;
  tags_known = refl;
  tags_once = refl;
  entry_kept = entries_kept newer t;
  numbers_once = refl;
  entries_least = omega arith;
  file_kept = files_kept newer t;
  lent_once = refl;
  group_one = inl refl;
  text_kept = k;
}

pub every_text_carried : (newer : Bool) (t : List ℕ) → (read_text GroupOne t).outcome ≡ passed
    → Presented (around newer t) × (read_presentation (octets_of (around newer t)) ≡ read_text GroupOne t)
unfolding around
every_text_carried newer t e =
    let k = (accepted_exactly GroupOne t).0 e in
    let small : length t ≤ 90 = omega (arith, k.2.size, total_le k.0) in
    let p = around_presented newer t small k in
    (p, presented_text (around newer t) p)
