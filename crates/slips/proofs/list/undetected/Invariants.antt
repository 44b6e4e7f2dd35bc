-- The pairs listed so far and the undetected ones of those that are left make the list.
use Rattle.std.proofs.Common.{◌≡◌, ◌≤◌, length}
use Rattle.digit_theorems.specs.Pairs.{undetected}
use Rattle.slips.proofs.Listing.{listing}
use Rattle.slips.proofs.list.undetected.Given as goal

abbrev pub invariant-loop-number : goal.invariant-loop-number
invariant-loop-number l =
    (l.count ≤ l.number) × (l.number ≤ 1369) × (length l.numbers ≡ 1369)
    × (listing l.modulus l.numbers l.count l.number ≡ undetected l.modulus)
