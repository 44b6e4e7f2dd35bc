-- THE DEMANDS ARE NOT EMPTY: with any sound record, two houses in their order are accepted, and exchanged, or one of them twice,
-- refused by 23; an octet alone is refused by 18.
use Prim.Native.Nat.{ℕ, ◌<◌}
use mathlib.Core.Path.{◌≡◌, refl, ap, sym, ◌∙◌}
use mathlib.Core.Bool.{Bool, true, false}
use mathlib.Core.List.{List, [], ◌∷◌, ◌++◌, append-nil}
use native.Mathlib.Omega.{arith}
use borrow.Author.Tests.{eq-eqb}
use lib.ListN.{length, length-append}
use Rattle.refusal.specs.Numbers.{by}
use Rattle.zone.specs.Alphabet.{every}
use Rattle.zone.specs.Octets.{is_octet}
use Rattle.zone.specs.declared.record.Record.{Record}
use Rattle.sound.specs.Sound.{is_sound}
use Rattle.tlv.specs.Read.{value, refusal}
use Rattle.entry.specs.Entry.{entry_of, is_house}
use Rattle.nightly.specs.Key.{is_below}
use Rattle.nightly.specs.List.{look_over}
use Rattle.run_theorems.specs.Runs.{Line, is_kept, all_kept, joined, NoEntry}
use Rattle.run_theorems.proofs.EntryLengths.{entry_bounds}
use Rattle.run_theorems.proofs.ListReadBack.{kept_both}
use Rattle.nightly_theorems.specs.Listed.{octets_of, key_in, rises, InOrder}
use Rattle.nightly_theorems.proofs.Acceptance.{in_order_counted, no_entry_refused, not_above_refused}
use Rattle.nightly_theorems.proofs.Houses.{house_rises, house_below}

below_itself : (a : List ℕ) → is_below a a ≡ false
unfolding is_below
below_itself [] = refl
below_itself (x ∷ a) = rw (eq-eqb x x refl) (below_itself a)

-- one line
alone : (l : Line) → is_kept l ≡ true → InOrder (l ∷ [])
unfolding all_kept rises
alone l k = record { kept = rw k; rising = refl }

-- behind one whose key is not below its own
second_refused : (l m : Line) → is_kept l ≡ true → is_kept m ≡ true → is_below (key_in l) (key_in m) ≡ false
    → look_over (octets_of l ++ octets_of m) ≡ refusal (by 23) (length (octets_of l))
unfolding joined rises
second_refused l m k j below =
    let there : octets_of l ++ octets_of m ≡ (octets_of l ++ []) ++ octets_of m = rw (append-nil (octets_of l)) in
    let e = not_above_refused (octets_of l ++ octets_of m) (l ∷ []) (alone l k) (octets_of m) there m [] j
    (sym (append-nil (octets_of m))) (rw below) in
    rw (append-nil (octets_of l)) at e

module _ (r : Record) (sound : is_sound r ≡ true) (h k : ℕ) (house : is_house h ≡ true) (house' : is_house k ≡ true)
    (less : h < k)
  where
    lower : Line
    lower = record { house = h; kept = r }

    upper : Line
    upper = record { house = k; kept = r }

    kept_lower : is_kept lower ≡ true
    unfolding is_kept lower
    kept_lower = rw (house, sound)

    kept_upper : is_kept upper ≡ true
    unfolding is_kept upper
    kept_upper = rw (house', sound)

    pub two_accepted : look_over (entry_of h r ++ entry_of k r) ≡ value 2
    unfolding joined all_kept rises lower upper
    two_accepted =
        let o : InOrder (lower ∷ upper ∷ []) = record {
          kept = rw (kept_lower, kept_upper);
          rising = rw (house_below lower upper kept_lower kept_upper less);
        } in
        rw (append-nil (entry_of k r)) at (in_order_counted (lower ∷ upper ∷ []) o)

    pub exchanged_refused : look_over (entry_of k r ++ entry_of h r) ≡ refusal (by 23) (length (entry_of k r))
    unfolding lower upper
    exchanged_refused = second_refused upper lower kept_upper kept_lower (go (is_below (key_in upper) (key_in lower)) refl)
      where
        go : (b : Bool) → is_below (key_in upper) (key_in lower) ≡ b → b ≡ false
        go true q = absurd (omega (arith, less, house_rises upper lower kept_upper kept_lower q))
        go false q = refl

    pub twice_refused : look_over (entry_of h r ++ entry_of h r) ≡ refusal (by 23) (length (entry_of h r))
    unfolding lower
    twice_refused = second_refused lower lower kept_lower kept_lower (below_itself (key_in lower))

-- an octet alone is shorter than every entry
pub octet_refused : look_over (0 ∷ []) ≡ refusal (by 18) 0
unfolding joined all_kept rises every is_octet
octet_refused = no_entry_refused (0 ∷ []) [] (record { kept = refl; rising = refl }) (0 ∷ []) refl refl never none_there
  where
    never : ◌≡◌ {A = List ℕ} (0 ∷ []) [] → ⊥
    never e = let n = ap length e in omega (arith, n)

    none_there : NoEntry (0 ∷ [])
    none_there l rest k e =
        let n = ap length e ∙ length-append (octets_of l) rest in
        let long = (entry_bounds l.house l.kept (kept_both l k).1).0 in
        omega (arith, n, long)
