-- A header that version 03 carries keeps the rules of one that is read, and is read as itself.
use Prim.Native.Nat.{ℕ, ◌-◌}
use mathlib.Core.Path.{◌≡◌, refl, ap, sym, ◌∙◌}
use mathlib.Core.Logic.{inr}
use mathlib.Core.Bool.{true, ◌&&◌, and-true}
use mathlib.Core.List.{List, [], ◌∷◌, ◌++◌}
use native.Mathlib.Omega.{arith}
use borrow.Author.Tests.{eqb-true}
use lib.Dec.{eqb}
use lib.ListN.{length, take, drop, replicate, length-map, length-drop, take-append-drop}
use Rattle.lent.proofs.Bools.{and_both}
use Rattle.zone.specs.Alphabet.{is_letter, is_filler, is_character, every, filler}
use Rattle.zone.specs.Record.{padded}
use Rattle.zone.proofs.Padded.{padded_spare}
use Rattle.field.specs.Letters.{state_rule}
use Rattle.field.proofs.Characters.{state_pure}
use Rattle.seal_fields.specs.Spaces.{spaced}
use Rattle.seal_fields.proofs.Short.{of_four}
use Rattle.seal_fields.proofs.Spaced.{spaced_c40, filled_spaced}
use Rattle.seal_header.specs.declared.header.Header.{Header}
use Rattle.seal_header.specs.Reference.{is_letter_or_digit}
use Rattle.seal_theorems.specs.Sealed.{HeadKept, header_in}
use Rattle.seal_writing.specs.Carried.{is_signer, Carried}
use Rattle.seal_writing.specs.Seal.{head_of}
use Rattle.seal_writing.proofs.WholePut.{certificate_length}

-- fillers and nothing else
all_fillers : (s : List ℕ) → every is_filler s ≡ true → s ≡ replicate (length s) filler
unfolding every is_filler
all_fillers [] e = refl
all_fillers (c ∷ s) e =
    let p = and_both (eqb c filler) (every is_filler s) e in
    let one = eqb-true c filler p.0 in
    let more = all_fillers s p.1 in
    λ i. one i ∷ more i

pub length-spaced : (t : List ℕ) → length (spaced t) ≡ length t
unfolding spaced
length-spaced t = length-map t _

signer_kept : (a : List ℕ) → length a ≡ 4 → is_signer a ≡ true
    → (every is_letter (take 2 a) ≡ true) × (every is_letter_or_digit (drop 2 a) ≡ true)
unfolding is_signer every
signer_kept = of_four
    (λ l. is_signer l ≡ true → (every is_letter (take 2 l) ≡ true) × (every is_letter_or_digit (drop 2 l) ≡ true))
    (λ a b c d e.
    let p = and_both (is_letter a && is_letter b) (is_letter_or_digit c && is_letter_or_digit d) e in
    (rw (and-true (is_letter b)) p.0, rw (and-true (is_letter_or_digit d)) p.1))

module _ (h : Header) (k : Carried h) where
  counted : length (take h.reference_len h.reference) ≡ h.reference_len
  counted = certificate_length h k.country_three k.signer_four k.reference_room k.reference_most

  country_pure : every is_character h.country ≡ true
  country_pure = state_pure h.country k.country_three k.country_rule

  pub head_kept : HeadKept (head_of h)
  unfolding head_of
  head_kept =
      let signer = signer_kept h.signer k.signer_four k.signer_rule in
      let same = filled_spaced h.country country_pure in
      record {
        version_kept = inr k.version_three;
        country_length = length-spaced h.country ∙ k.country_three;
        country_c40 = spaced_c40 h.country country_pure;
        country_kept = ap state_rule same ∙ k.country_rule;
        reference_kept = record {
          signer_length = k.signer_four;
          signer_letters = signer.0;
          signer_others = signer.1;
          certificate_hex = k.reference_hex;
          certificate_five = λ e. absurd (omega (arith, sym e ∙ k.version_three));
          certificate_most = λ _. rw counted k.reference_most;
        };
        issued_kept = k.issued_day;
        signed_kept = k.signed_day;
      }

  -- the places past the reference's length are fillers
  reference_back : padded 255 (take h.reference_len h.reference) ≡ h.reference
  reference_back =
      let n = h.reference_len in
      let front = take n h.reference in
      let behind = drop n h.reference in
      let left : length behind ≡ 255 - length front = length-drop n h.reference ∙ rw (k.reference_room, counted) in
      padded_spare 255 front (rw counted k.reference_most)
      ∙ ap (λ (m : ℕ). front ++ replicate m filler) (sym left)
      ∙ ap (λ (l : List ℕ). front ++ l) (sym (all_fillers behind k.reference_fillers))
      ∙ take-append-drop n h.reference

  pub header_back : header_in (head_of h) ≡ h
  unfolding header_in head_of
  header_back =
      let country = filled_spaced h.country country_pure in
      let definition = sym k.definition_so in
      let category = sym k.category_so in
      λ i. record {
        version = h.version;
        country = country i;
        signer = h.signer;
        reference = reference_back i;
        reference_len = counted i;
        issued = h.issued;
        signed_on = h.signed_on;
        definition = definition i;
        category = category i;
      }
