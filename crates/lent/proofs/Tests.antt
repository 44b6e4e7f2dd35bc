-- The lemmas that close a leaf function of tests: each turns what a branch showed into the definition's own test. Every crate
-- above cites the set.
use Prim.Native.Nat.{ℕ, ◌<◌}
use lib.Dec.{T, leb, leb→le}
use native.Mathlib.Nat.{lt_of_lt_of_le}
use borrow.Author.Rules.{rules}
use borrow.Author.Tests.{lt-ltb, le-ltb, le-leb, lt-leb, eq-eqb, ne_eqb}

pub lt_lit : (x a b : ℕ) → x < a → T (leb a b) → x < b
lt_lit x a b h t = lt_of_lt_of_le h (leb→le a b t)

pub ruleset tests = (rules, lt-ltb, le-ltb, le-leb, lt-leb, eq-eqb, ne_eqb, lt_lit)
