-- Which version of the libraries this is. No paper says it: docs/DECISIONS.md has what raises which number. Headers, Makefile and
-- pkg-config files have the same three numbers, and the header the one number below; `tests/manual/run` holds them to this file,
-- and the prover `src/lib.rt`.
use Rattle.std.specs.Prelude.{ℕ, ◌+◌, ◌*◌}

abbrev pub major : ℕ
major = 0

abbrev pub minor : ℕ
minor = 3

abbrev pub patch : ℕ
patch = 2

-- the three as one number, of which a later version has a greater one: minor and patch stay below 100
unfoldable pub version_number : ℕ
version_number = 10000 * major + 100 * minor + patch
