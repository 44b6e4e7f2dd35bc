-- Field by field.
use Rattle.zone.proofs.Widths.{fixed}
use Rattle.zone.specs.Form.{field}
use Rattle.zone.specs.Inner.Places.{places_of}
use Rattle.zone.specs.Record.{holding}
use Rattle.text.specs.Read.{record_by, in_text}
use Rattle.text.proofs.Ends.{name_ends, own_ends}
use Rattle.text.proofs.record.record_by.Goals as goal

pub returns : goal.returns
unfolding record_by holding in_text places_of field
returns c =
    let named = c in
    let early = named in
    let a = early.args in
    let form = a.form in
    let t = a.text.now in
    let widths = fixed form in
    rw (
      c.trimmed_length-own_len.ensures,
      c.own_chars-own.ensures,
      early.number_length-number_len.ensures,
      own_ends form t _,
    )
    (rw (
      named.trimmed_length-name_len.ensures,
      named.name_chars-name.ensures,
      name_ends form t,
      named.date_at-expiry.ensures,
      named.sex_at-sex.ensures,
      named.date_at-birth.ensures,
      early.state_at-nationality.ensures,
      early.number_chars-number.ensures,
      early.state_at-state.ensures,
      early.code_at-code.ensures,
      early.places-at.ensures,
      widths.code_width,
      widths.state_width,
      widths.nationality_width,
      widths.birth_width,
      widths.sex_width,
      widths.expiry_width,
    ))
