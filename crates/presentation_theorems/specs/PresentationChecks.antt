-- The checks of a presentation one after the other, a row for each sentence that can refuse: document 01, "Stages of a
-- presentation", and document 02, 2026-04, whose words are those in quotes. Which of them a refusal names is `FirstFailing`
-- (text_theorems). Every row is said of the octets; where one fails, those behind it decide nothing.
use Rattle.std.specs.Prelude.{ℕ, cond, not, List, [], ◌∷◌, ◌++◌, map, eqb, leb, length, take, get_or}
use Rattle.zone.specs.declared.form.Source.TheVariants.{GroupOne}
use Rattle.refusal.specs.Outcome.{Outcome, unless}
use Rattle.lent.specs.Octets.{alike, stands}
use Rattle.tlv.specs.declared.Stretch.{Stretch}
use Rattle.tlv.specs.Cut.{cut, end_check}
use Rattle.tlv.specs.Tags.{is_group, group_of}
use Rattle.tlv.specs.Tags as Tag
use Rattle.tlv.specs.Versions.{lds18}
use Rattle.outer.specs.declared.File.{File}
use Rattle.efcom.specs.declared.Common.{Common}
use Rattle.object.specs.declared.strings.Version.{Version}
use Rattle.object.specs.declared.strings.Version.TheVariants.{Zero, One}
use Rattle.object.specs.Object.{GroupHash}
use Rattle.chip.specs.Files.{is_digested}
use Rattle.group_text.specs.Text.{moved_to}
use Rattle.text_theorems.specs.Ordered.{checks_of}
use Rattle.tlv.specs.Places.{stretch_at, places}
use Rattle.row_theorems.specs.Standing.{coded, each}
use Rattle.presentation_theorems.specs.EfComChecks.{common, ef_com_checks}
use Rattle.presentation_theorems.specs.ObjectChecks.{entries_place, entries_in, version_of, object_checks}

-- ---- stage 2

-- where the values of EF.COM and of the object stand
unfoldable pub ef_com : List ℕ → Stretch
ef_com w = stretch_at w 0 Tag.ef_com

unfoldable pub object : List ℕ → Stretch
object w = stretch_at w (ef_com w).to Tag.sequence

-- the file at a place
unfoldable pub lent_file : List ℕ → ℕ → File
lent_file w at = record { start = at; held = stretch_at w at (get_or w at 0) }

-- the places of files from a place on
unfoldable pub file_places : List ℕ → ℕ → List ℕ
file_places w at = places (λ p. (lent_file w p).held.to) (length w) at

-- "group tags only", "every file ending within the bytes"
unfoldable pub group_checks : List ℕ → ℕ → List Outcome
group_checks w at = unless (is_group (get_or w at 0)) 10 at ∷ coded w at (get_or w at 0) ∷ []

-- "2. Outer walk (10): tag 60, tag 30, then group tags only, every file ending within the bytes."
unfoldable pub outer_checks : List ℕ → List Outcome
outer_checks w = coded w 0 Tag.ef_com ∷ coded w (ef_com w).to Tag.sequence ∷ each (group_checks w) (file_places w (object w).to)

-- ---- after stage 4

-- "`0107` goes with object version 0, `0108` with version 1 and strings equal to EF.COM's." Else 19, "at the object's start": a
-- row for the versions, and one for each of the strings
unfoldable pub versions_checks : List ℕ → (start : ℕ) → Common → Version → List Outcome
versions_checks w start c Zero = unless (not c.newer) 19 start ∷ []
versions_checks w start c (One t) =
    unless c.newer 19 start
    ∷ unless (alike (cut w t.lds) lds18) 19 start
    ∷ unless (alike (cut w t.unicode) (cut w c.unicode)) 19 start
    ∷ []

-- ---- stage 5

-- 14, "group unlisted, lent before, or without entry"; 15, "digest differs": "over the whole file, tag and length included"
unfoldable pub file_checks : List ℕ → (tags before : List ℕ) → List GroupHash → ℕ → List Outcome
file_checks w tags before es at =
    let tag = get_or w at 0 in
    unless (stands tag tags) 14 at
    ∷ unless (not (stands tag before)) 14 at
    ∷ unless (stands (group_of tag) (map (λ e. e.group) es)) 14 at
    ∷ unless (is_digested w es (lent_file w at) tag) 15 at
    ∷ []

-- "5. Per group file, in lent order: 14, then 15."; before: the tags of the files that were lent before
unfoldable pub files_checks : List ℕ → (tags before : List ℕ) → List GroupHash → List ℕ → List Outcome
files_checks w tags before es [] = []
files_checks w tags before es (at ∷ ps) = file_checks w tags before es at ++ files_checks w tags (get_or w at 0 ∷ before) es ps

-- ---- stage 6

-- "5F1F and the text, exactly filling 61; then the text's refusals"
unfoldable pub text_checks : List ℕ → ℕ → List Outcome
text_checks s at =
    let v = stretch_at s at Tag.text in
    coded s at Tag.text ∷ end_check s v.to ∷ map (moved_to v.from) (checks_of GroupOne (cut s v))

-- where the first file with tag 61 stands
unfoldable pub group_one_place : List ℕ → List ℕ → ℕ
group_one_place w [] = length w
group_one_place w (at ∷ ps) = cond (eqb Tag.group1 (get_or w at 0)) at (group_one_place w ps)

-- "6. No group 1: 14, its place the presentation's length. Inside group 1:"
unfoldable pub group_one_checks : List ℕ → List ℕ → List Outcome
group_one_checks w ps =
    let one = (lent_file w (group_one_place w ps)).held in
    unless (stands Tag.group1 (map (λ at. get_or w at 0) ps)) 14 (length w) ∷ text_checks (take one.to w) one.from

-- ---- all of them

-- "1. Size (1)": over 65,535, at 0; "Stages go in number order."; 19 "after all of stage 4"
unfoldable pub presentation_checks : List ℕ → List Outcome
presentation_checks w =
    let header = take (ef_com w).to w in
    let security = take (object w).to w in
    let ps = file_places w (object w).to in
    let c = common header (ef_com w).from in
    let es = entries_in security (entries_place security (object w).from) in
    unless (leb (length w) 65535) 1 0
    ∷ (outer_checks w
    ++ (ef_com_checks header (ef_com w).from
    ++ (object_checks security (object w).from
    ++ (versions_checks w (ef_com w).to c (version_of security (object w).from)
    ++ (files_checks w (cut w c.tags) [] es ps ++ group_one_checks w ps)))))
