-- The shorter formula agrees with the paper's on single bits (`choose`).
use Rattle.sha256_words.specs.Functions.{Ch}
use Rattle.sha256_words.proofs.BitLaws.{choose}
use Rattle.sha256_words.proofs.words.ch.Goals as goal

pub returns : goal.returns
unfolding Ch
returns c = let a = c.args in
    let f = c.ranges in
    choose 32 a.x a.y a.z f.x.fits f.y.fits f.z.fits
