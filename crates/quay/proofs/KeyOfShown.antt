-- DEMAND 3, the key, for texts, presentations and seals in any mixture: the record of whatever is accepted is sound
-- (`shown_sound`), so that two keys agree exactly when house, form, state, whole number, birth and expiry do (`shown_key`).
use Prim.Native.Nat.{ℕ}
use mathlib.Core.Path.{◌≡◌}
use mathlib.Core.Logic.{◌↔◌}
use mathlib.Core.Bool.{true}
use Rattle.refusal.specs.Outcome.{passed}
use Rattle.sound.specs.Sound.{is_sound}
use Rattle.entry.specs.Entry.{is_house}
use Rattle.run_theorems.specs.Keys.{key_of, SameKey}
use Rattle.run_theorems.proofs.Keys.{key_exactly}
use Rattle.demands.proofs.PresentationRecord.{presentation_sound}
use Rattle.demands.proofs.ReadInC.{text_sound}
use Rattle.seal_theorems.proofs.SealRecord.{seal_sound}
use Rattle.quay.specs.Shown.{Shown, text, presentation, seal, answered}

pub shown_sound : (x : Shown) → (answered x).outcome ≡ passed → is_sound (answered x).kept ≡ true
unfolding answered
shown_sound (text t) e = text_sound t e
shown_sound (presentation w) e = presentation_sound w e
shown_sound (seal s) e = seal_sound s e

pub shown_key : (h k : ℕ) (x y : Shown) → is_house h ≡ true → is_house k ≡ true → (answered x).outcome ≡ passed
    → (answered y).outcome ≡ passed
    → (key_of h (answered x).kept ≡ key_of k (answered y).kept) ↔ SameKey h (answered x).kept k (answered y).kept
shown_key h k x y house house' e f =
    key_exactly h k (answered x).kept (answered y).kept house (shown_sound x e) house' (shown_sound y f)
