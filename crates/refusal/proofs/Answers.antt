-- Laws of answers: what a step gives, which answer keeps what another gives, and what holds of whatever is given.
-- By cases of the answer. Assumes nothing.
use Prim.Native.Nat.{ℕ}
use mathlib.Core.Bool.{Bool, true, false, cond}
use Rattle.std.specs.Prelude.{Option, Some, None}
use mathlib.Core.Path.{◌≡◌, refl}
use mathlib.Core.List.{List}
use lib.ListN.{length}
use lib.Dec.{ltb}
use Rattle.ascii.specs.Text.{first_high}
use Rattle.refusal.specs.Answer.{Answer, given, refused, and_then, unless_fault, max_length, admitted}

-- nothing that is refused is given
pub never : {A : Type 0} (B : Type 0) (n p : ℕ) (a : A) → refused n p ≡ given a → B
never B n p a h = cc

pub and_then-given : {A B : Type 0} (x : Answer A) (f : A → Answer B) (b : B) → and_then x f ≡ given b → (a : A) × (x ≡ given a) × (f a ≡ given b)
and_then-given (given a) f b h = (a, refl, h)
and_then-given (refused n p) f b h = never _ n p b h

-- an answer keeps another if it gives whatever that gives
abbrev pub Keeps : {A : Type 0} → Answer A → Answer A → Type 0
Keeps {A} x y = (a : A) → x ≡ given a → y ≡ given a

pub keeps-cond : {A : Type 0} (b : Bool) (x y v w : Answer A) → Keeps x y → Keeps v w → Keeps (cond b x v) (cond b y w)
keeps-cond true x y v w h k = h
keeps-cond false x y v w h k = k

pub keeps-fault : {A : Type 0} (n : ℕ) (o : Option ℕ) (x y : Answer A) → Keeps x y → Keeps (unless_fault n o x) (unless_fault n o y)
keeps-fault n None x y h = h
keeps-fault n (Some p) x y h = λ a e. e

pub keeps-admitted : {A : Type 0} (xs : List ℕ) (x y : Answer A) → Keeps x y → Keeps (admitted xs x) (admitted xs y)
keeps-admitted xs x y h = keeps-cond (ltb max_length (length xs)) _ _ _ _ (λ a e. e) (keeps-fault 2 (first_high 0 xs) x y h)

-- where the step after it gives something, an answer and one that keeps it are the same
pub keeps_then : {A B : Type 0} (x y : Answer A) (f : A → Answer B) (b : B) → Keeps x y → and_then x f ≡ given b → y ≡ x
keeps_then (given a) y f b k h = k a refl
keeps_then (refused n p) y f b k h = never _ n p b h

-- whatever is given has the property
abbrev pub Sure : {A : Type 0} → (A → Type 0) → Answer A → Type 0
Sure P (given a) = P a
Sure P (refused n p) = Unit {0}

pub sure-of : {A : Type 0} (P : A → Type 0) (x : Answer A) (a : A) → Sure P x → x ≡ given a → P a
sure-of P (given b) a h e = let q : b ≡ a = cc in rw q at h
sure-of P (refused n p) a h e = never _ n p a e

pub sure-if : {A : Type 0} (P : A → Type 0) (x : Answer A) → ((a : A) → x ≡ given a → P a) → Sure P x
sure-if P (given a) h = h a refl
sure-if P (refused n p) h = tt

pub sure-cond : {A : Type 0} (P : A → Type 0) (b : Bool) (x y : Answer A) → Sure P x → Sure P y → Sure P (cond b x y)
sure-cond P true x y h k = h
sure-cond P false x y h k = k

pub sure-fault : {A : Type 0} (P : A → Type 0) (n : ℕ) (o : Option ℕ) (x : Answer A) → Sure P x → Sure P (unless_fault n o x)
sure-fault P n None x h = h
sure-fault P n (Some p) x h = tt

pub sure-admitted : {A : Type 0} (P : A → Type 0) (xs : List ℕ) (x : Answer A) → Sure P x → Sure P (admitted xs x)
sure-admitted P xs x h = sure-cond P (ltb max_length (length xs)) _ _ tt (sure-fault P 2 (first_high 0 xs) x h)

pub sure-then : {A B : Type 0} (P : A → Type 0) (Q : B → Type 0) (x : Answer A) (f : A → Answer B) → Sure P x → ((a : A) → P a → Sure Q (f a)) → Sure Q (and_then x f)
sure-then P Q (given a) f h k = k a h
sure-then P Q (refused n p) f h k = tt

-- a step of which nothing need be known
pub sure-past : {A B : Type 0} (Q : B → Type 0) (x : Answer A) (f : A → Answer B) → ((a : A) → Sure Q (f a)) → Sure Q (and_then x f)
sure-past Q (given a) f k = k a
sure-past Q (refused n p) f k = tt
