-- The shorter formula agrees with the paper's on single bits (`majority`).
use Rattle.sha256_words.specs.Functions.{Maj}
use Rattle.sha256_words.proofs.BitLaws.{majority}
use Rattle.sha256_words.proofs.words.maj.Goals as goal

pub returns : goal.returns
unfolding Maj
returns c = let a = c.args in
    let f = c.ranges in
    majority 32 a.x a.y a.z f.x.fits f.y.fits f.z.fits
