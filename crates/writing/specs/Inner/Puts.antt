-- Parts put one after the other into a range: fillers everywhere, and then each part in its place.
use Rattle.std.specs.Prelude.{ℕ, ◌+◌, cond, List, length, take, set, replicate}
use Rattle.lent.specs.Copied.{copied_at}
use Rattle.zone.specs.Part.{Part, code, state, number, number_check, optional, birth, birth_check, sex, expiry, expiry_check}
use Rattle.zone.specs.Part.{nationality, composite, name, personal_check, own}
use Rattle.zone.specs.Alphabet.{filler}
use Rattle.zone.specs.Rooms.{date_room, nine}
use Rattle.zone.specs.Form.{start, width, has, covered, own_part, before_own}
use Rattle.zone.specs.Record.{held}
use Rattle.zone.specs.declared.record.Record.{Record}
use Rattle.digit.specs.Check.{digit_of}
use Rattle.writing.specs.Text.{number_in, further_in, is_wide}

-- characters in the place of a part. A part that the form does not have begins at the text's end, where nothing can stand.
unfoldable pub put : Record → Part → List ℕ → List ℕ → List ℕ
put r x s t = copied_at t (start r.form x) (take (width r.form x) s)

-- one character where a part begins
unfoldable pub mark : Record → Part → ℕ → List ℕ → List ℕ
mark r x c t = set t (start r.form x) c

unfoldable pub put_opening : Record → List ℕ → List ℕ
put_opening r t = put r state r.state (put r code r.code t)

unfoldable pub put_short : Record → List ℕ → List ℕ
put_short r t = mark r number_check (digit_of (take nine r.number)) (put r number r.number t)

unfoldable pub put_long : Record → List ℕ → List ℕ
put_long r t =
    let at = start r.form optional + length (further_in r) in
    set (set (put r optional (further_in r) (mark r number_check filler (put r number r.number t))) at (digit_of (number_in r)))
    (at + 1) filler

unfoldable pub put_number : Record → List ℕ → List ℕ
put_number r t = cond (is_wide r) (put_long r t) (put_short r t)

-- behind what a long number takes of their field
unfoldable pub put_own : Record → List ℕ → List ℕ
put_own r t = copied_at t (start r.form (own_part r.form) + before_own r.form r.number_len) (held r own)

abbrev pub put_date : Record → (date check : Part) → List ℕ → List ℕ → List ℕ
put_date r date check s t = mark r check (digit_of (take date_room s)) (put r date s t)

unfoldable pub put_dates : Record → List ℕ → List ℕ
put_dates r t = put_date r expiry expiry_check r.expiry (put_date r birth birth_check r.birth t)

unfoldable pub put_person : Record → List ℕ → List ℕ
put_person r t = put r name r.name (mark r sex r.sex (put r nationality r.nationality t))

unfoldable pub put_last : Record → List ℕ → List ℕ
put_last r t =
    let told = mark r personal_check (digit_of (held r own)) t in
    cond (has r.form composite) (mark r composite (digit_of (covered r.form told)) told) told

unfoldable pub put_all : Record → List ℕ → List ℕ
put_all r t = put_last r (put_person r (put_dates r (put_own r (put_number r (put_opening r (replicate (length t) filler))))))
