-- THE RECORD of an accepted seal is sound (`seal_sound`), whatever numbers it was read from, since it is an accepted text's
-- (`seal_held`).
use Prim.Native.Nat.{ℕ}
use mathlib.Core.Path.{◌≡◌, ap, ◌∙◌}
use mathlib.Core.Bool.{true}
use mathlib.Core.List.{List}
use Rattle.zone.specs.declared.form.Source.TheVariants.{Seal}
use Rattle.refusal.specs.Outcome.{passed}
use Rattle.sound.specs.Sound.{is_sound}
use Rattle.text.specs.Read.{read_text}
use Rattle.seal_fields.specs.Spaces.{filled}
use Rattle.seal.specs.Seal.{text_in, said_in, read_seal}
use Rattle.text_theorems.proofs.RecordOfText.{kept_and_sound}
use Rattle.seal_theorems.proofs.Stages.{taken_apart, passed_value}

pub seal_held : (s : List ℕ) → (read_seal s).outcome ≡ passed
    → (t : List ℕ) × ((read_text Seal t).outcome ≡ passed) × ((read_seal s).kept ≡ (read_text Seal t).kept)
unfolding read_seal
seal_held s e =
    let c = passed_value (said_in s) e in
    let k = taken_apart s c.0 c.1 in
    (filled (text_in s k.zones.message), k.text_stage, c.2 ∙ k.kept_stage)

pub seal_sound : (s : List ℕ) → (read_seal s).outcome ≡ passed → is_sound (read_seal s).kept ≡ true
seal_sound s e = let t = seal_held s e in ap is_sound t.2 ∙ (kept_and_sound Seal t.0 t.1).3
