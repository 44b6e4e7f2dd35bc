use native.Mathlib.Omega.{arith}
use mathlib.Core.Path.{◌≡◌, ap, sym, ◌∙◌}
use Prim.Native.Nat.{◌+◌, ◌*◌, ◌/◌, ◌≤◌}
use lib.ListN.{length}
use Rattle.sha256.specs.Hash.{chained}
use Rattle.sha256.proofs.ListLaws.{chunk_at}
use Rattle.sha256.proofs.PaddingLaws.{padded_after}
use Rattle.sha256.proofs.ChainLaws.{chained_block}
use Rattle.sha256.proofs.message.hash.Goals as goal

pub loop-block-init : goal.loop-block-init
loop-block-init c = rw c.initial_hash-hash.ensures

pub loop-block-preserved : goal.loop-block-preserved
loop-block-preserved c =
    let m = c.args.message.now in
    let l = c.loop-block in
    let i = l.block-index in
    let fits : 64 * i + 64 ≤ length m = omega (arith, c.as_chunks.ensures.front_len) in
    let next : 64 * (i + 1) ≡ 64 * i + 64 = omega arith in
    let block = chunk_at 64 (length m / 64) m i (omega (arith, c.as_chunks.ensures.front_len)) in
    rw (next, c.compress-next.ensures, c.as_chunks.ensures.front, block) (chained_block l.hash m (64 * i) fits) ∙ l.invariant

pub finish-requires : goal.finish-requires
finish-requires c = sym c.as_chunks.ensures.back_len

pub returns : goal.returns
returns c =
    let m = c.args.message.now in
    let l = c.loop-block in
    let end : length m / 64 * 64 ≡ 64 * l.block-index = omega (arith, c.as_chunks.ensures.front_len) in
    let whole : 64 * l.block-index ≤ length m = omega (arith, c.as_chunks.ensures.front_len) in
    c.finish.ensures
    ∙ rw (c.as_chunks.ensures.back, end) (ap (chained l.hash) (sym (padded_after m (64 * l.block-index) whole)))
    ∙ l.invariant
