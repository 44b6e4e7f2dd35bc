-- What stands before the files, and then these.
use mathlib.Core.Path.{sym}
use Rattle.tlv.proofs.Told.{exit_read}
use Rattle.tlv.specs.Read.{and_then}
use Rattle.tlv.proofs.Joined.{passed_then, refused_then}
use Rattle.outer.proofs.BeforeFiles.{front_walked}
use Rattle.outer.proofs.walk.Goals as goal

pub returns-in_err-parts : goal.returns-in_err-parts
unfolding and_then
returns-in_err-parts c =
    rw (exit_read _ c.from_residual.result c.from_residual.ensures.1, front_walked c.args.w.now, ← c.in_err-parts.ensures)

pub returns-in_err-files : goal.returns-in_err-files
unfolding and_then
returns-in_err-files c =
    let r = c.from_residual-in_err-files in
    rw (
      exit_read _ r.result r.ensures.1,
      front_walked c.args.w.now,
      ← c.in_ok-parts.ensures,
    ) (sym (refused_then _ _ _ _ (sym c.in_err-files.ensures)))

pub returns : goal.returns
unfolding and_then
returns c = rw (front_walked c.args.w.now, ← c.in_ok-parts.ensures) (sym (passed_then _ _ (sym c.in_ok-files.ensures)))
