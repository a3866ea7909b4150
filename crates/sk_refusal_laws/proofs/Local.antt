-- Two lists that part behind a token: a reader that stops no later than there does the same with both.
use Rattle.std.proofs.Common.{◌≡◌, ℕ, suc, ◌<◌, ◌≤◌, Bool, true, false, cond, List, [], ◌∷◌, ◌++◌, length, drop, Option, Some, None, refl, ap, sym, subst, ◌∙◌, arith}
use Rattle.sk_refusals.specs.declared.refusal.Limited.TheVariants.{Nodes}
use Rattle.sk_refusals.specs.declared.refusal.Refusal.{Refusal}
use Rattle.sk_refusals.specs.declared.refusal.Refusal.TheVariants.{Syntax, Many}
use Rattle.sk_tokens.specs.declared.token.Sign.TheVariants as sign
use Rattle.sk_tokens.specs.declared.token.Token.{Token}
use Rattle.sk_reading.specs.declared.next.Next.{Next}
use Rattle.sk_reading.specs.declared.next.Next.TheVariants as next
use Rattle.sk_reading.specs.Reading.{Place, Outcome, Read, Refused, Parser, and_then, ◌>>=◌, pure, refuse, peek, take, line, front, front_of, next_of, front_line, line_of, advance, taken}
use Rattle.sk_reading.specs.ReadingExpressions.{is_type}

-- ---- outcomes that leave few tokens

-- fewer tokens are left than that
abbrev pub Under : ℕ → {A : Type 0} → Outcome A → Type 0
Under n (Read x) = length x.1.rest < n
Under n (Refused refusal left) = left < n

pub under-more : {A : Type 0} (m n : ℕ) (o : Outcome A) → m ≤ n → Under m o → Under n o
under-more m n (Read x) less h = omega arith
under-more m n (Refused refusal left) less h = omega arith

-- a reader leaves no more tokens than there are
abbrev pub Shrinks : {A : Type 0} → Parser A → Type 0
Shrinks f = (p : Place) → Under (suc (length p.rest)) (f p)

pub under-then : {A B : Type 0} (n : ℕ) (o : Outcome A) (g : A → Parser B) → Under n o → ((value : A) → Shrinks (g value)) → Under n (and_then o g)
under-then n (Read x) g h shrinks = under-more (suc (length x.1.rest)) n (g x.0 x.1) (omega arith) (shrinks x.0 x.1)
under-then n (Refused refusal left) g h shrinks = h

-- ---- places and outcomes of both

-- the last token that two lists share, and what follows it in each
pub record Parting : Type 0 where
  pub token : Token
  pub one : List Token
  pub other : List Token

pub record Alike (w : Parting) (p p' : Place) : Type 0 where
  pub before : List Token
  pub one : p.rest ≡ before ++ w.token ∷ w.one
  pub other : p'.rest ≡ before ++ w.token ∷ w.other
  pub nodes : p.nodes ≡ p'.nodes
  pub instances : p.instances ≡ p'.instances

-- It ends past the token; or it is refused at it, an opening parenthesis, for one node too many, since a type follows.
pub data Ends (token : Token) (behind : List Token) {A : Type 0} (o : Outcome A) : Type 0 where
  Past : Under (length (token ∷ behind)) o → Ends token behind o
  Counts : next_of token ≡ next.Sign sign.OpenParen → is_type (front_of behind) ≡ true → o ≡ Refused (Many Nodes) (length (token ∷ behind)) → Ends token behind o

-- the same is read, or refused no later than at the token; or each ends by itself
pub data Related (w : Parting) {A : Type 0} (o o' : Outcome A) : Type 0 where
  Both : (value : A) (q q' : Place) → o ≡ Read (value, q) → o' ≡ Read (value, q') → Alike w q q' → Related w o o'
  Neither : (refusal : Refusal) (before : List Token) → o ≡ Refused refusal (length (before ++ w.token ∷ w.one)) → o' ≡ Refused refusal (length (before ++ w.token ∷ w.other))
      → Related w o o'
  Apart : Ends w.token w.one o → Ends w.token w.other o' → Related w o o'

pub ends-then : {A B : Type 0} (token : Token) (behind : List Token) (o : Outcome A) (g : A → Parser B) → Ends token behind o → ((value : A) → Shrinks (g value)) → Ends token behind (and_then o g)
ends-then token behind o g (Past under) shrinks = Past (under-then (length (token ∷ behind)) o g under shrinks)
ends-then token behind o g (Counts opens types is) shrinks = Counts opens types (ap (λ k. and_then k g) is)

pub record Local (w : Parting) {A : Type 0} (f : Parser A) : Type 0 where
  pub shrinks : Shrinks f
  pub goes : (p p' : Place) → Alike w p p' → Related w (f p) (f p')

-- what follows may differ, as long as it does the same
pub related-and_then : {w : Parting} {A B : Type 0} (o o' : Outcome A) (g g' : A → Parser B) → Related w o o' → ((value : A) → Shrinks (g value)) → ((value : A) → Shrinks (g' value))
    → ((value : A) (q q' : Place) → o ≡ Read (value, q) → o' ≡ Read (value, q') → Alike w q q' → Related w (g value q) (g' value q'))
    → Related w (and_then o g) (and_then o' g')
related-and_then {w} o o' g g' (Both value q q' is is' alike) shrinks shrinks' goes =
    subst (λ k. Related w (and_then k g) (and_then o' g')) (sym is) (subst (λ k. Related w (g value q) (and_then k g')) (sym is') (goes value q q' is is' alike))
related-and_then {w} o o' g g' (Neither refusal before is is') shrinks shrinks' goes = Neither refusal before (ap (λ k. and_then k g) is) (ap (λ k. and_then k g') is')
related-and_then {w} o o' g g' (Apart here there) shrinks shrinks' goes = Apart (ends-then w.token w.one o g here shrinks) (ends-then w.token w.other o' g' there shrinks')

pub local-then : {w : Parting} {A B : Type 0} (f : Parser A) (g : A → Parser B) → Local w f → ((value : A) → Local w (g value)) → Local w (f >>= g)
local-then f g first more = record {
  shrinks = λ p. under-then (suc (length p.rest)) (f p) g (first.shrinks p) (λ value. (more value).shrinks);
  goes = λ p p' alike. related-and_then (f p) (f p') g g (first.goes p p' alike) (λ value. (more value).shrinks) (λ value. (more value).shrinks) (λ value q q' is is' next. (more value).goes q q' next);
}

pub step : {w : Parting} {A B : Type 0} {f : Parser A} {g : A → Parser B} → Local w f → ((value : A) → Local w (g value)) → Local w (f >>= g)
step {f = f} {g = g} first more = local-then f g first more

-- ---- what the first token alone decides

first-same : (w : Parting) {X : Type 0} (h : List Token → X) → ((token : Token) (one other : List Token) → h (token ∷ one) ≡ h (token ∷ other)) → (before : List Token)
    → h (before ++ w.token ∷ w.one) ≡ h (before ++ w.token ∷ w.other)
first-same w h only [] = only w.token w.one w.other
first-same w h only (token ∷ before) = only token (before ++ w.token ∷ w.one) (before ++ w.token ∷ w.other)

pub decided : {w : Parting} {X : Type 0} (h : List Token → X) → ((token : Token) (one other : List Token) → h (token ∷ one) ≡ h (token ∷ other)) → (p p' : Place) → Alike w p p'
    → h p.rest ≡ h p'.rest
decided {w} h only p p' alike = ap h alike.one ∙ first-same w h only alike.before ∙ sym (ap h alike.other)

pub front-same : {w : Parting} (p p' : Place) → Alike w p p' → front p ≡ front p'
unfolding front
front-same p p' alike = decided front_of (λ token one other. refl) p p' alike

-- ---- steps

pub local-pure : {w : Parting} {A : Type 0} (value : A) → Local w (pure value)
local-pure value = record { shrinks = λ p. omega arith; goes = λ p p' alike. Both value p p' refl refl alike }

pub local-refuse : {w : Parting} {A : Type 0} (refusal : Refusal) → Local w {A = A} (refuse refusal)
local-refuse refusal = record {
  shrinks = λ p. omega arith;
  goes = λ p p' alike. Neither refusal alike.before (ap (λ l. Refused refusal (length l)) alike.one) (ap (λ l. Refused refusal (length l)) alike.other);
}

pub local-peek : {w : Parting} → Local w peek
local-peek = record {
  shrinks = λ p. omega arith;
  goes = λ p p' alike. Both (front p) p p' refl (ap (λ nx. Read (nx, p')) (sym (front-same p p' alike))) alike;
}

pub local-line : {w : Parting} → Local w line
unfolding front_line
local-line = record {
  shrinks = λ p. omega arith;
  goes = λ p p' alike. Both (front_line p) p p' refl (ap (λ n. Read (n, p')) (sym (decided line_of (λ token one other. refl) p p' alike))) alike;
}

dropped : (l : List Token) → length (drop 1 l) ≤ length l
dropped [] = omega arith
dropped (token ∷ l) = omega arith

pub advanced : (p : Place) → length (advance p).rest < suc (length p.rest)
unfolding advance
advanced p = omega (arith, dropped p.rest)

pub local-advance : {w : Parting} {A : Type 0} (value : A) → Local w (λ p. Read (value, advance p))
unfolding advance
local-advance {w} {A} value = record { shrinks = λ p. advanced p; goes = λ p p' alike. go p p' alike.before alike.one alike.other alike.nodes alike.instances }
  where
    go : (p p' : Place) (before : List Token) → p.rest ≡ before ++ w.token ∷ w.one → p'.rest ≡ before ++ w.token ∷ w.other → p.nodes ≡ p'.nodes → p.instances ≡ p'.instances
        → Related w {A = A} (Read (value, advance p)) (Read (value, advance p'))
    go p p' [] one other nodes instances = Apart (Past (omega (arith, ap (λ l. length (drop 1 l)) one))) (Past (omega (arith, ap (λ l. length (drop 1 l)) other)))
    go p p' (token ∷ before) one other nodes instances =
        Both value (advance p) (advance p') refl refl (record { before = before; one = ap (drop 1) one; other = ap (drop 1) other; nodes = nodes; instances = instances })

pub local-take : {w : Parting} → Local w take
local-take = local-advance tt

-- past the token
pub past-at : {A : Type 0} (token : Token) (behind : List Token) (p : Place) (f : Parser A) → Shrinks f → p.rest ≡ token ∷ behind → Under (length (token ∷ behind)) (f (advance p))
unfolding advance
past-at token behind p f shrinks is = under-more (suc (length (advance p).rest)) (length (token ∷ behind)) (f (advance p)) (omega (arith, ap (λ l. length (drop 1 l)) is)) (shrinks (advance p))

pub related-if : {w : Parting} {A : Type 0} (b b' : Bool) (o o' u u' : Outcome A) → b ≡ b' → Related w o o' → Related w u u' → Related w (cond b o u) (cond b' o' u')
related-if true b' o o' u u' is holds fails = rw (← is) holds
related-if false b' o o' u u' is holds fails = rw (← is) fails

pub under-if : {A : Type 0} (n : ℕ) (b : Bool) (o u : Outcome A) → Under n o → Under n u → Under n (cond b o u)
under-if n true o u holds fails = holds
under-if n false o u holds fails = fails

-- by a test that is alike at places that are
pub local-if : {w : Parting} {A : Type 0} (c : Place → Bool) (f g : Parser A) → ((p p' : Place) → Alike w p p' → c p ≡ c p') → Local w f → Local w g → Local w (λ p. cond (c p) (f p) (g p))
local-if c f g same holds fails = record {
  shrinks = λ p. under-if (suc (length p.rest)) (c p) (f p) (g p) (holds.shrinks p) (fails.shrinks p);
  goes = λ p p' alike. related-if (c p) (c p') (f p) (f p') (g p) (g p') (same p p' alike) (holds.goes p p' alike) (fails.goes p p' alike);
}

pub local-cond : {w : Parting} {A : Type 0} (b : Bool) (f g : Parser A) → Local w f → Local w g → Local w (cond b f g)
local-cond true f g holds fails = holds
local-cond false f g holds fails = fails

pub local-front : {w : Parting} {A : Type 0} (c : Next → Bool) (f g : Parser A) → Local w f → Local w g → Local w (λ p. cond (c (front p)) (f p) (g p))
local-front c f g holds fails = local-if (λ p. c (front p)) f g (λ p p' alike. ap c (front-same p p' alike)) holds fails

-- by what comes next
pub local-by : {w : Parting} {X A : Type 0} (c : Next → X) (f : X → Parser A) → ((x : X) → Local w (f x)) → Local w (λ p. f (c (front p)) p)
local-by {w} c f local = record {
  shrinks = λ p. (local (c (front p))).shrinks p;
  goes = λ p p' alike. subst (λ nx. Related w (f (c (front p)) p) (f (c nx) p')) (front-same p p' alike) ((local (c (front p))).goes p p' alike);
}

-- what is taken is decided by the first token
related-taken : {w : Parting} {A : Type 0} (p p' : Place) → Alike w p p' → (o o' : Option A) → o ≡ o' → Related w (taken p o) (taken p' o')
related-taken {w} {A} p p' alike (Some a) o' is = subst (λ k. Related w (taken p (Some a)) (taken p' k)) is ((local-advance a).goes p p' alike)
related-taken {w} {A} p p' alike None o' is = subst (λ k. Related w (taken {A = A} p None) (taken p' k)) is ((local-refuse {A = A} Syntax).goes p p' alike)

under-taken : {A : Type 0} (p : Place) (o : Option A) → Under (suc (length p.rest)) (taken p o)
under-taken p (Some a) = advanced p
under-taken p None = omega arith

pub local-taken : {w : Parting} {A : Type 0} (h : List Token → Option A) → ((token : Token) (one other : List Token) → h (token ∷ one) ≡ h (token ∷ other))
    → Local w (λ p. taken p (h p.rest))
local-taken h only = record {
  shrinks = λ p. under-taken p (h p.rest);
  goes = λ p p' alike. related-taken p p' alike (h p.rest) (h p'.rest) (decided h only p p' alike);
}

pub local-same : {w : Parting} {A : Type 0} (f g : Parser A) → ((p : Place) → f p ≡ g p) → Local w f → Local w g
local-same {w} f g same local = record {
  shrinks = λ p. subst (Under (suc (length p.rest))) (same p) (local.shrinks p);
  goes = λ p p' alike. subst (λ o. Related w o (g p')) (same p) (subst (λ o'. Related w (f p) o') (same p') (local.goes p p' alike));
}

-- ---- loops that have turns enough

pub record Turning (w : Parting) {A : Type 0} (from : ℕ → Parser A) : Type 0 where
  pub shrinks : (n : ℕ) → Shrinks (from n)
  pub goes : (n n' : ℕ) (p p' : Place) → length p.rest ≤ n → length p'.rest ≤ n' → Alike w p p' → Related w (from n p) (from n' p')

pub local-turning : {w : Parting} {A : Type 0} (from : ℕ → Parser A) → Turning w from → Local w (λ p. from (length p.rest) p)
local-turning from turning = record {
  shrinks = λ p. turning.shrinks (length p.rest) p;
  goes = λ p p' alike. turning.goes (length p.rest) (length p'.rest) p p' (omega arith) (omega arith) alike;
}

some-left : (t : Token) (before l : List Token) → 0 < length (before ++ t ∷ l)
some-left t [] l = omega arith
some-left t (token ∷ before) l = omega arith

-- a token is left
pub left-here : {w : Parting} (p p' : Place) → Alike w p p' → 0 < length p.rest
left-here {w} p p' alike = omega (arith, ap length alike.one, some-left w.token alike.before w.one)

pub left-there : {w : Parting} (p p' : Place) → Alike w p p' → 0 < length p'.rest
left-there {w} p p' alike = omega (arith, ap length alike.other, some-left w.token alike.before w.other)
