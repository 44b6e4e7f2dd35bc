-- Why and where tell the refusal: no two causes share a number, and of 9 the digit tells.
use Prim.Native.Nat.{ℕ}
use mathlib.Core.Path.{◌≡◌, refl, ap, sym, ◌∙◌}
use Rattle.std.specs.Prelude.{⊤, Result, Ok, Err}
use mathlib.Core.List.{List, [], ◌∷◌}
use lib.ListN.{get_or}
use native.Mathlib.Omega.{arith}
use Rattle.refusal.specs.declared.Cause.{Cause}
use Rattle.refusal.specs.declared.Cause.TheVariants.{Length, Character, Code, State, Number, Date, Sex, Name, Digit}
use Rattle.refusal.specs.declared.Cause.TheVariants.{Encoding, EfCom, SecurityObject, Algorithm, Group, Digest, Output}
use Rattle.refusal.specs.declared.Cause.TheVariants.{Unsound, Entry, Versions, Details, Depth, Templates, Order}
use Rattle.refusal.specs.declared.Cause.TheVariants.{SealHeader, SealFeature, SealText, SealSignature, SealInput}
use Rattle.refusal.specs.declared.Refusal.{Refusal}
use Rattle.refusal.specs.Numbers.{Why, by, expecting, why_of}
use Rattle.refusal.specs.Outcome.{Outcome, passed, refused, outcome_of}
use Rattle.refusal.specs.Length.{Length as Answered, written, refused as denied, length_of}

-- the cause of a number. (0 is none's, and 9 is told with its digit.)
causes : List Cause
causes =
    Length ∷ Length ∷ Character ∷ Code ∷ State ∷ Number ∷ Date ∷ Sex ∷ Name ∷ Length
    ∷ Encoding ∷ EfCom ∷ SecurityObject ∷ Algorithm ∷ Group ∷ Digest ∷ Output ∷ Unsound ∷ Entry
    ∷ Versions ∷ Details ∷ Depth ∷ Templates ∷ Order ∷ SealHeader ∷ SealFeature ∷ SealText ∷ SealSignature
    ∷ SealInput ∷ []

cause_of : Why → Cause
cause_of (by n) = get_or causes n Length
cause_of (expecting d) = Digit d

cause_of_lem : (c : Cause) → cause_of (why_of c) ≡ c
unfolding cause_of causes
cause_of_lem Length = refl
cause_of_lem Character = refl
cause_of_lem Code = refl
cause_of_lem State = refl
cause_of_lem Number = refl
cause_of_lem Date = refl
cause_of_lem Sex = refl
cause_of_lem Name = refl
cause_of_lem (Digit d) = refl
cause_of_lem Encoding = refl
cause_of_lem EfCom = refl
cause_of_lem SecurityObject = refl
cause_of_lem Algorithm = refl
cause_of_lem Group = refl
cause_of_lem Digest = refl
cause_of_lem Output = refl
cause_of_lem Unsound = refl
cause_of_lem Entry = refl
cause_of_lem Versions = refl
cause_of_lem Details = refl
cause_of_lem Depth = refl
cause_of_lem Templates = refl
cause_of_lem Order = refl
cause_of_lem SealHeader = refl
cause_of_lem SealFeature = refl
cause_of_lem SealText = refl
cause_of_lem SealSignature = refl
cause_of_lem SealInput = refl

pub why_tells : (c d : Cause) → why_of c ≡ why_of d → c ≡ d
why_tells c d e = sym (cause_of_lem c) ∙ (ap cause_of e ∙ cause_of_lem d)

pub refused_tells : (r s : Refusal) → refused (why_of r.cause) r.place ≡ refused (why_of s.cause) s.place → r ≡ s
refused_tells r s e =
    let p : r.cause ≡ s.cause = why_tells r.cause s.cause (cc) in
    let q : r.place ≡ s.place = cc in
    λ i. record { cause = p i; place = q i }

pub outcome_tells : (v w : Result ⊤ Refusal) → outcome_of v ≡ outcome_of w → v ≡ w
outcome_tells (Ok a) (Ok b) e = refl
outcome_tells (Ok a) (Err s) e = absurd (let z : ◌≡◌ {A = ℕ} 0 1 = cc in omega arith)
outcome_tells (Err r) (Ok b) e = absurd (let z : ◌≡◌ {A = ℕ} 0 1 = cc in omega arith)
outcome_tells (Err r) (Err s) e = ap Err (refused_tells r s e)

-- a length or a refusal
refusal_of : Answered → Outcome
refusal_of (written n) = passed
refusal_of (denied why p) = refused why p

pub length-tells : (v w : Result ℕ Refusal) → length_of v ≡ length_of w → v ≡ w
unfolding refusal_of
length-tells (Ok n) (Ok m) e = ap Ok (cc)
length-tells (Ok n) (Err s) e = absurd (let z : ◌≡◌ {A = ℕ} 0 1 = cc in omega arith)
length-tells (Err r) (Ok m) e = absurd (let z : ◌≡◌ {A = ℕ} 0 1 = cc in omega arith)
length-tells (Err r) (Err s) e = ap Err (refused_tells r s (ap refusal_of e))
