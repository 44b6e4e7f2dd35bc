-- Dates: document 01, "The text", Field rules, Birth and Expiry.
use Rattle.std.specs.Prelude.{ℕ, ◌+◌, ◌*◌, ◌-◌, ◌%◌, Bool, true, false, cond, ◌&&◌, ◌||◌, List, get_or, eqb, leb}
use Prim.Native.Char.{code}
use Rattle.zone.specs.Alphabet.{is_digit, is_filler}
use Rattle.field.specs.declared.date.Pair.{Pair}
use Rattle.field.specs.declared.date.Pair.TheVariants.{Known, Unknown, Neither}

-- two digits, or `<<`, or neither
unfoldable pub pair_of : ℕ → ℕ → Pair
pair_of a b =
    cond (is_digit a) (cond (is_digit b) (Known ((a - code "0") * 10 + (b - code "0"))) Neither)
    (cond (is_filler a && is_filler b) Unknown Neither)

-- year, month, day
unfoldable pub year_of : List ℕ → Pair
year_of s = pair_of (get_or s 0 0) (get_or s 1 0)

unfoldable pub month_of : List ℕ → Pair
month_of s = pair_of (get_or s 2 0) (get_or s 3 0)

unfoldable pub day_of : List ℕ → Pair
day_of s = pair_of (get_or s 4 0) (get_or s 5 0)

-- a year divisible by 4 (00 included) or unknown
unfoldable pub is_leap : Pair → Bool
is_leap (Known n) = eqb (n % 4) 0
is_leap Unknown = true
is_leap Neither = false

-- the months of 30 days: April, June, September, November
unfoldable pub is_short : ℕ → Bool
is_short n = eqb n 4 || eqb n 6 || eqb n 9 || eqb n 11

-- the month's length, 31 if the month is unknown
unfoldable pub days_in : Pair → Pair → ℕ
days_in year (Known n) = cond (eqb n 2) (cond (is_leap year) 29 28) (cond (is_short n) 30 31)
days_in year Unknown = 31
days_in year Neither = 31

-- two digits or `<<`
unfoldable pub year_rule : Pair → Bool
year_rule (Known n) = true
year_rule Unknown = true
year_rule Neither = false

-- month 01-12
unfoldable pub month_rule : Pair → Bool
month_rule (Known n) = leb 1 n && leb n 12
month_rule Unknown = true
month_rule Neither = false

-- day 01 to the month's length
unfoldable pub day_rule : ℕ → Pair → Bool
day_rule last (Known n) = leb 1 n && leb n last
day_rule last Unknown = true
day_rule last Neither = false

-- year, month, day, each two digits or `<<`
unfoldable pub birth_rule : List ℕ → Bool
birth_rule s = year_rule (year_of s) && (month_rule (month_of s) && day_rule (days_in (year_of s) (month_of s)) (day_of s))

unfoldable pub is_known : Pair → Bool
is_known (Known n) = true
is_known Unknown = false
is_known Neither = false

-- six digits
unfoldable pub expiry_rule : List ℕ → Bool
expiry_rule s = (is_known (year_of s) && (is_known (month_of s) && is_known (day_of s))) && birth_rule s
