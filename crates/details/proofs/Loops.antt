-- List and elements side by side, by what a loop finds: what is left from here on says the same as the whole.
use Prim.Native.Nat.{ℕ, ◌≤◌, ◌<◌}
use mathlib.Core.Path.{◌≡◌}
use mathlib.Core.List.{List, [], ◌∷◌}
use borrow.Author.Tests.{le-leb, lt-leb, eq-eqb, ne_eqb}
use lib.Dec.{leb}
use lib.ListN.{length}
use Rattle.refusal.specs.Numbers.{by}
use Rattle.refusal.specs.Outcome.{refused, unless}
use Rattle.details.specs.Tags.{stands_for, tag_here, tags_in}
use Rattle.details.specs.Details.{given}
use Rattle.details.specs.Inner.Places.{held_at, detail_here, agrees_at, value_at}
use Rattle.details.proofs.Listed.{tag_of}

module _ (end : ℕ) (s : List ℕ) (at : ℕ) (rest : List ℕ) where
  pub agree_end : tags_in rest ≡ [] → agrees_at end s (tags_in rest) at ≡ unless (leb (length s) at) 20 at
  unfolding agrees_at
  agree_end h = rw h

  -- the next of them
  module _ (pair after : List ℕ) (n : tags_in rest ≡ tag_of pair ∷ tags_in after) where
    pub agree_missing : length s ≤ at → agrees_at end s (tags_in rest) at ≡ refused (by 20) end
    unfolding agrees_at
    agree_missing k = rw (n, le-leb (length s) at k)

    pub agree_differs : at < length s → (tag_here s at ≡ stands_for (tag_of pair) → ⊥)
        → agrees_at end s (tags_in rest) at ≡ refused (by 20) at
    unfolding agrees_at
    agree_differs k d = rw (n, lt-leb (length s) at k, ne_eqb (tag_here s at) (stands_for (tag_of pair)) d)

    pub agree_more : at < length s → tag_here s at ≡ stands_for (tag_of pair)
        → agrees_at end s (tags_in rest) at ≡ agrees_at end s (tags_in after) (held_at s at).to
    unfolding agrees_at
    agree_more k d = rw (n, lt-leb (length s) at k, eq-eqb (tag_here s at) (stands_for (tag_of pair)) d)

module _ (asked : ℕ) (s : List ℕ) (at : ℕ) (rest : List ℕ) where
  pub value_none : tags_in rest ≡ [] → value_at asked s (tags_in rest) at ≡ record { from = 0; to = 0 }
  unfolding value_at
  value_none h = rw h

  -- the next of them
  module _ (pair after : List ℕ) (n : tags_in rest ≡ tag_of pair ∷ tags_in after) where
    pub value_found : tag_of pair ≡ asked → value_at asked s (tags_in rest) at ≡ given (detail_here s at)
    unfolding value_at
    value_found d = rw (n, eq-eqb (tag_of pair) asked d)

    pub value_more : (tag_of pair ≡ asked → ⊥)
        → value_at asked s (tags_in rest) at ≡ value_at asked s (tags_in after) (held_at s at).to
    unfolding value_at
    value_more d = rw (n, ne_eqb (tag_of pair) asked d)
