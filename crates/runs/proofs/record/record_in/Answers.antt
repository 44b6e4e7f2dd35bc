-- Field by field, from the units of the entry (`record-read`).
use Prim.Native.Nat.{◌+◌}
use native.Mathlib.Omega.{arith}
use Rattle.units.specs.Unpacked.{bits_within}
use Rattle.runs.proofs.RecordRead.{units_are, record_read}
use Rattle.runs.proofs.record.record_in.Goals as goal

pub returns : goal.returns
unfolding bits_within
returns c =
    let name = c in
    let expiry = name in
    let sex = expiry in
    let birth = sex in
    let nationality = birth in
    let trimmed = nationality in
    let number = trimmed in
    let state = number in
    let code = state in
    let read = code in
    let start = read in
    let s = start.args.s.now in
    let m = start.args.m in
    let n = start.args.n in
    rw (
      c.own_at-own.ensures,
      name.name_at-name.ensures,
      expiry.date_at-expiry.ensures,
    )
    (rw (
      sex.sex_by-sex.ensures,
      sex.bits.ensures,
      birth.date_at-birth.ensures,
      nationality.state_at-nationality.ensures,
    )
    (rw (
      trimmed.trimmed_length-number_len.ensures,
      trimmed.part.ensures,
      number.number_at-number.ensures,
      state.state_at-state.ensures,
      code.code_at-code.ensures,
      units_are s read.read_units.new.units (m + n) read.read_units.ensures,
    )
    (record_read start.args.form s m n start.requires.0 start.requires.1)))

pub overflow_add-m-2 : goal.overflow_add-m-2
overflow_add-m-2 c =
    let sex = c in
    let number = sex in
    omega (arith, number.requires.0.0)
