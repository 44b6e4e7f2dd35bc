-- A list's tags and its octets tell each other.
use Prim.Native.Nat.{ℕ, suc, ◌+◌, ◌*◌, ◌/◌, ◌%◌, ◌<◌}
use mathlib.Core.Path.{◌≡◌, refl, ap, sym, ◌∙◌}
use mathlib.Core.Bool.{true, not, ◌&&◌}
use mathlib.Core.List.{List, [], ◌∷◌}
use native.Mathlib.Nat.{div-add-mod'}
use native.Mathlib.Omega.{arith}
use borrow.Author.Tests.{le-ltb}
use lib.ListN.{length, drop, get_or}
use Rattle.lent.specs.Octets.{stands}
use Rattle.lent.proofs.Bools.{and_both}
use Rattle.tlv.specs.Element.{tag_octets}
use Rattle.tlv.proofs.Encoded.{two_high, two_low}
use Rattle.details.specs.Tags.{is_named, tags_in}
use Rattle.details.specs.Details.{are_named}
use Rattle.details.proofs.Listed.{named_between}
use Rattle.detail_theorems.specs.Named.{Named, tags_of, list_octets}

-- of tags as said the first is, and so are the others
pub named_parts : (t : ℕ) (before ts : List ℕ) → are_named before (t ∷ ts) ≡ true
    → (is_named t ≡ true) × (are_named (t ∷ before) ts ≡ true)
unfolding are_named
named_parts t before ts e =
    let a = and_both (is_named t) (not (stands t before) && are_named (t ∷ before) ts) e in
    (a.0, (and_both (not (stands t before)) (are_named (t ∷ before) ts) a.1).1)

pub list_back : (ns : List Named) (before : List ℕ) → are_named before (tags_of ns) ≡ true → tags_in (list_octets ns) ≡ tags_of ns
unfolding list_octets tag_octets tags_in
list_back [] before e = refl
list_back (n ∷ ns) before e =
    let a = named_parts n.tag before (tags_of ns) e in
    let b = named_between n.tag a.0 in
    rw (le-ltb n.tag 256 (omega (arith, b.0)), div-add-mod' n.tag 256, list_back ns (n.tag ∷ before) a.1)

pub first_same : (x y : ℕ) (l m : List ℕ) → x ∷ l ≡ y ∷ m → x ≡ y
first_same x y l m e = ap (λ (q : List ℕ). get_or q 0 0) e

pub rest_same : (x y : ℕ) (l m : List ℕ) → x ∷ l ≡ y ∷ m → l ≡ m
rest_same x y l m e = ap (drop 1) e

pub some_none : (x : ℕ) (l : List ℕ) → x ∷ l ≡ [] → ⊥
some_none x l e = let k = ap length e in omega (arith, k)

pub list_there : (l : List ℕ) → ((i : ℕ) → get_or l i 0 < 256) → (ns : List Named) (before : List ℕ) → tags_in l ≡ tags_of ns
    → are_named before (tags_of ns) ≡ true → l ≡ list_octets ns
unfolding list_octets tag_octets tags_in
list_there [] small [] before e h = refl
list_there [] small (n ∷ ns) before e h = absurd (some_none n.tag (tags_of ns) (sym e))
list_there (a ∷ []) small [] before e h = absurd (some_none (a * 256) [] e)
list_there (a ∷ []) small (n ∷ ns) before e h =
    let k = named_between n.tag (named_parts n.tag before (tags_of ns) h).0 in
    absurd (omega (arith, first_same (a * 256) n.tag [] (tags_of ns) e, k.0, k.1))
list_there (a ∷ b ∷ l) small [] before e h = absurd (some_none (a * 256 + b) (tags_in l) e)
list_there (a ∷ b ∷ l) small (n ∷ ns) before e h =
    let p = named_parts n.tag before (tags_of ns) h in
    let k = named_between n.tag p.0 in
    let same = first_same (a * 256 + b) n.tag (tags_in l) (tags_of ns) e in
    let low : b < 256 = small 1 in
    let high : n.tag / 256 ≡ a = ap (λ (q : ℕ). q / 256) (sym same) ∙ two_high a b low in
    let last : n.tag % 256 ≡ b = ap (λ (q : ℕ). q % 256) (sym same) ∙ two_low a b low in
    let rest = list_there l (λ i. small (suc (suc i))) ns (n.tag ∷ before)
    (rest_same (a * 256 + b) n.tag (tags_in l) (tags_of ns) e) p.1 in
    rw (le-ltb n.tag 256 (omega (arith, k.0)), high, last) (ap (λ (q : List ℕ). a ∷ b ∷ q) rest)
