-- The two cases of `numbered`.
use Rattle.std.proofs.Common.{rules}
use Rattle.std.specs.Prelude.{◌≡◌, Result, Ok, Err}
use Rattle.std.specs.Result.{MatchResult}
use Rattle.std.proofs.lemmas.Result.{MatchResult-weaker, err_from_is_err_and}
use Rattle.refusal.specs.declared.Cause.{Cause}
use Rattle.refusal.specs.declared.Refusal.{Refusal}
use Rattle.refusal.specs.Numbers.{why_of}
use Rattle.tlv.specs.declared.Stretch.{Stretch}
use Rattle.tlv.specs.Read.{read_of}
use Rattle.seal_features.specs.Features.{numbered}
use Rattle.seal_features.proofs.features.numbered.Goals as goal

mapped : (cause : Cause) (t r : Result Stretch Refusal)
    → MatchResult t (λ v. r ≡ Ok v) (λ e. (y : Refusal) × (r ≡ Err y) × (y ≡ record { cause = cause; place = e.place }))
    → read_of r ≡ numbered (why_of cause) (read_of t)
unfolding numbered
mapped cause (Ok v) r h = rw h
mapped cause (Err e) r h = rw (h.1, h.2)

pub returns : goal.returns
returns c =
    mapped c.args.cause c.args.taken c.map_err.result
    (MatchResult-weaker c.args.taken c.map_err.ensures.cases (λ v e. e) (λ why e.
    let p = err_from_is_err_and c.map_err.result e in
    let q = p.2 in
    (p.0, p.1, search rules)))
