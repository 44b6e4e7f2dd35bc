-- A day in three octets: document 02, 2026-08, "A date is the number MMDDYYYY in three octets, a calendar day of the years 1 to
-- 9999" (source 002, 3.3.1).
use Rattle.std.specs.Prelude.{ℕ, ◌+◌, ◌*◌, ◌/◌, ◌%◌, Bool, cond, not, ◌&&◌}
use Rattle.std.specs.Prelude.{◌||◌, List, [], ◌∷◌, eqb, leb, length, take, drop, get_or}
use Rattle.field.specs.Date.{is_short}
use Rattle.seal_fields.specs.declared.day.Day.{Day}

-- Gregorian: 29 February where the year is divisible by 4 and not by 100, or by 400
unfoldable pub is_leap : ℕ → Bool
is_leap year = (eqb (year % 4) 0 && not (eqb (year % 100) 0)) || eqb (year % 400) 0

unfoldable pub days_in : (year month : ℕ) → ℕ
days_in year month = cond (eqb month 2) (cond (is_leap year) 29 28) (cond (is_short month) 30 31)

-- a calendar day of the years 1 to 9999
unfoldable pub is_day : Day → Bool
is_day d =
    (leb 1 d.year && leb d.year 9999)
    && ((leb 1 d.month && leb d.month 12) && (leb 1 d.day && leb d.day (days_in d.year d.month)))

-- MMDDYYYY
unfoldable pub day_of : ℕ → Day
day_of n = record { year = n % 10000; month = n / 1000000; day = n / 10000 % 100 }

-- the number in three octets; 0, which is no day's, where there are not three
unfoldable pub number_in : List ℕ → ℕ
number_in s = cond (eqb (length s) 3) (get_or s 0 0 * 65536 + get_or s 1 0 * 256 + get_or s 2 0) 0

-- what the three octets at a place say
unfoldable pub day_at : List ℕ → ℕ → Day
day_at s at = day_of (number_in (take 3 (drop at s)))

-- ---- its octets

-- "the number MMDDYYYY in three octets"
unfoldable pub day_number : Day → ℕ
day_number d = d.month * 1000000 + d.day * 10000 + d.year

unfoldable pub three_octets : ℕ → List ℕ
three_octets n = (n / 65536) ∷ (n / 256 % 256) ∷ (n % 256) ∷ []

unfoldable pub day_octets : Day → List ℕ
day_octets d = three_octets (day_number d)
