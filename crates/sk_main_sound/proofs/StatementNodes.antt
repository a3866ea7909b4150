-- The code of statements of main, from the code of their parts: what is asked, sequences, and blocks.
use Rattle.std.proofs.Common.{◌≡◌, ℕ, ◌+◌, ◌-◌, ◌≤◌, List, [], ◌∷◌, ◌++◌, length, take, Some, slice_get, refl, sym, ap, ◌∙◌, subst, arith, append_assoc, length-append}
use Rattle.std.proofs.lemmas.List.{append-nil}
use Rattle.std.proofs.Math.Seq.{take-append_seam}
use Rattle.std.specs.Prelude.{true, false, Bool, not, ◌&&◌, ◌||◌}
use Rattle.sk_base.specs.declared.number.Ty.{Ty}
use Rattle.sk_isa.specs.declared.code.Instr.{Instr}
use Rattle.sk_isa.specs.declared.object.Object.{Object}
use Rattle.sk_main_code.specs.MainSoundness.{main_scalar}
use Rattle.sk_main_fits.specs.StatementFits.{Judged, Test, all_emits, sequence_fits, behind_line}
use Rattle.sk_main_scheme.specs.MainScheme.{Emitted, Emitting, Standing, all_emitted, block_emitted, counted, dropped, then_emitted}
use Rattle.sk_main_sound.proofs.Parts.{Part, counted_part, drops_part, left_live, nothing_part, part_same, then_part}
use Rattle.sk_main_sound.proofs.Scopes.{Scope, AreBelow, InScope, below_wider, live_append, live_in, live_left}
use Rattle.sk_plain.proofs.Lists.{slice_get-front}
use Rattle.sk_plain.proofs.Truths.{and_left, and_right}
use Rattle.sk_scheme.specs.Scheme.{Known}
use Rattle.sk_tree.specs.declared.declared.Declared.{Declared}

-- statements one after another, as one
abbrev pub sequence_judged : List Judged → Judged
sequence_judged js = record { emits = all_emitted (all_emits js); fits = sequence_fits js; is_light = false; is_step = false }

abbrev pub block_judged : List Judged → Judged
block_judged js = record { emits = block_emitted (all_emits js); fits = sequence_fits js; is_light = false; is_step = false }

-- a statement, and what follows it
abbrev pub pair_judged : Judged → Judged → Judged
pair_judged j1 j2 =
    record { emits = then_emitted j1.emits j2.emits; fits = λ fs st. j1.fits fs st && j2.fits fs (j1.emits fs st).behind; is_light = false; is_step = false }

module _ (object : Object) (depth : ℕ) (functions : List (List ℕ × Known)) where
  -- the slots and the containers so far are the object's first ones
  pub record Holds (st : Standing) : Type 0 where
    pub slots : (slot : ℕ) (ty : Ty) → slice_get st.slots slot ≡ Some ty → main_scalar object slot ≡ Some ty
    pub containers : (number : ℕ) (declared : Declared) → slice_get st.containers number ≡ Some declared → slice_get object.containers number ≡ Some declared

  -- the names in scope stand for what is there
  pub record IsPlaced (st : Standing) : Type 0 where
    pub scoped : InScope object st.scope
    pub below : AreBelow (length st.containers) st.scope

  -- what stands behind a statement
  pub record Grows (judged : Judged) : Type 0 where
    pub at : (st : Standing) → (judged.emits functions st).behind.at ≡ st.at + length (judged.emits functions st).code
    pub scope : (st : Standing) → (new : Scope) × ((judged.emits functions st).behind.scope ≡ new ++ st.scope)
    pub slots : (st : Standing) → (new : List Ty) × ((judged.emits functions st).behind.slots ≡ st.slots ++ new)
    pub containers : (st : Standing) → (new : List Declared) × ((judged.emits functions st).behind.containers ≡ st.containers ++ new)
    pub light : judged.is_light ≡ true → (st : Standing) (container : ℕ) → live_in (judged.emits functions st).behind.scope container ≡ live_in st.scope container
    pub step : judged.is_step ≡ true → (st : Standing) → (judged.emits functions st).behind.scope ≡ st.scope

  -- the code of a statement that fits is a sound piece, over which the live containers are those in scope
  abbrev pub Sounds : Emitting → Test → Type 0
  Sounds emits test =
      (st : Standing) → test functions st ≡ true → IsPlaced st → Holds (emits functions st).behind → (emits functions st).depth ≤ depth
      → Part object depth st.at (emits functions st).code (emits functions st).behind.at (live_in st.scope) (live_in (emits functions st).behind.scope)
      × IsPlaced (emits functions st).behind

  pub record IsSound (judged : Judged) : Type 0 where
    pub grows : Grows judged
    pub part : Sounds judged.emits judged.fits

  -- code that declares nothing
  pub grows_same : (judged : Judged) → ((st : Standing) → (judged.emits functions st).behind.at ≡ st.at + length (judged.emits functions st).code)
      → ((st : Standing) → (judged.emits functions st).behind.scope ≡ st.scope) → ((st : Standing) → (judged.emits functions st).behind.slots ≡ st.slots)
      → ((st : Standing) → (judged.emits functions st).behind.containers ≡ st.containers) → Grows judged
  grows_same judged at scope slots containers = record {
    at = at;
    scope = λ st. ([], scope st);
    slots = λ st. ([], slots st ∙ sym (append-nil st.slots));
    containers = λ st. ([], containers st ∙ sym (append-nil st.containers));
    light = λ e st container. ap (λ (s : Scope). live_in s container) (scope st);
    step = λ e st. scope st;
  }

  -- what holds behind code holds before it
  pub holds_before : (judged : Judged) → Grows judged → (st : Standing) → Holds (judged.emits functions st).behind → Holds st
  holds_before judged grows st h = record {
    slots = λ slot ty e.
        let c = grows.slots st in
        h.slots slot ty (subst (λ (l : List Ty). slice_get l slot ≡ Some ty) (sym c.1) (slice_get-front st.slots c.0 slot ty e));
    containers = λ number declared e.
        let c = grows.containers st in
        h.containers number declared (subst (λ (l : List Declared). slice_get l number ≡ Some declared) (sym c.1) (slice_get-front st.containers c.0 number declared e));
  }

  -- the containers before code are no more than those behind it
  pub containers_grow : (judged : Judged) → Grows judged → (st : Standing) → length st.containers ≤ length (judged.emits functions st).behind.containers
  containers_grow judged grows st =
      let c = grows.containers st in
      omega (arith, ap length c.1, length-append st.containers c.0)

  -- no statement
  pub none_sound : IsSound (sequence_judged [])
  none_sound = record {
    grows = grows_same (sequence_judged []) (λ st. refl) (λ st. refl) (λ st. refl) (λ st. refl);
    part = λ st fit placed holds low. (nothing_part object depth st.at (live_in st.scope), record { scoped = placed.scoped; below = placed.below });
  }

  -- a statement, and what follows it
  pub pair_sound : (j1 j2 : Judged) → IsSound j1 → IsSound j2 → IsSound (pair_judged j1 j2)
  pair_sound j1 j2 f1 f2 = record {
    grows = record {
      at = λ st.
          let one : Emitted = j1.emits functions st in
          let two : Emitted = j2.emits functions one.behind in
          omega (arith, f1.grows.at st, f2.grows.at one.behind, length-append one.code two.code);
      scope = λ st.
          let a = f1.grows.scope st in
          let b = f2.grows.scope (j1.emits functions st).behind in
          (b.0 ++ a.0, b.1 ∙ ap (λ l. b.0 ++ l) a.1 ∙ sym (append_assoc b.0 a.0 st.scope));
      slots = λ st.
          let a = f1.grows.slots st in
          let b = f2.grows.slots (j1.emits functions st).behind in
          (a.0 ++ b.0, b.1 ∙ ap (λ (l : List Ty). l ++ b.0) a.1 ∙ append_assoc st.slots a.0 b.0);
      containers = λ st.
          let a = f1.grows.containers st in
          let b = f2.grows.containers (j1.emits functions st).behind in
          (a.0 ++ b.0, b.1 ∙ ap (λ (l : List Declared). l ++ b.0) a.1 ∙ append_assoc st.containers a.0 b.0);
      light = λ e st. let no : ⊥ = cc in absurd no;
      step = λ e st. let no : ⊥ = cc in absurd no;
    };
    part = λ st fit placed holds low.
        let one : Emitted = j1.emits functions st in
        let two : Emitted = j2.emits functions one.behind in
        let r1 = f1.part st (and_left (j1.fits functions st) (j2.fits functions one.behind) fit) placed (holds_before j2 f2.grows one.behind holds) (omega (arith, low)) in
        let r2 = f2.part one.behind (and_right (j1.fits functions st) (j2.fits functions one.behind) fit) r1.1 holds (omega (arith, low)) in
        (then_part object depth st.at one.behind.at two.behind.at one.code two.code (live_in st.scope) (live_in one.behind.scope) (live_in two.behind.scope) r1.0 r2.0, r2.1);
  }

  -- a statement that is counted first
  pub counted_sounds : (line : ℕ) (emits : Emitting) (test : Test) → Sounds emits test → Sounds (counted line emits) (λ fs st. test fs (behind_line st))
  counted_sounds line emits test f st fit placed holds low =
      let st1 : Standing = behind_line st in
      let emitted : Emitted = emits functions st1 in
      let r = f st1 fit (record { scoped = placed.scoped; below = placed.below }) holds (omega (arith, low)) in
      (counted_part object depth line st.at emitted.behind.at emitted.code (live_in st.scope) (live_in emitted.behind.scope) r.0, r.1)

  or_none : (a b : Bool) → b ≡ true → (a || b) ≡ true
  or_none true b e = refl
  or_none false b e = e

  -- a block, whose names end with it, and whose containers are dropped
  pub block_sound : (js : List Judged) → IsSound (sequence_judged js) → IsSound (block_judged js)
  block_sound js f = record {
    grows = record {
      at = λ st.
          let inner : Emitted = all_emitted (all_emits js) functions st in
          let drops : List Instr = dropped (take (length inner.behind.scope - length st.scope) inner.behind.scope) in
          omega (arith, f.grows.at st, length-append inner.code drops);
      scope = λ st. ([], refl);
      slots = λ st. f.grows.slots st;
      containers = λ st. f.grows.containers st;
      light = λ e st. let no : ⊥ = cc in absurd no;
      step = λ e st. let no : ⊥ = cc in absurd no;
    };
    part = λ st fit placed holds low.
        let inner : Emitted = all_emitted (all_emits js) functions st in
        let g = f.grows.scope st in
        let count : length inner.behind.scope - length st.scope ≡ length g.0 = omega (arith, ap length g.1, length-append g.0 st.scope) in
        let drops : List Instr = dropped (take (length inner.behind.scope - length st.scope) inner.behind.scope) in
        let new_is : take (length inner.behind.scope - length st.scope) inner.behind.scope ≡ g.0 =
        ap (λ n. take n inner.behind.scope) count ∙ ap (λ (l : Scope). take (length g.0) l) g.1 ∙ take-append_seam g.0 st.scope in
        let drops_are : drops ≡ dropped g.0 = ap dropped new_is in
        let r = f.part st fit placed (record { slots = holds.slots; containers = holds.containers }) low in
        let below : AreBelow (length inner.behind.containers) (g.0 ++ st.scope) = subst (λ (s : Scope). AreBelow (length inner.behind.containers) s) g.1 r.1.below in
        let live : ℕ → Bool = live_in inner.behind.scope in
        let has : (container : ℕ) → live_in g.0 container ≡ true → live container ≡ true =
        λ container e. ap (λ (s : Scope). live_in s container) g.1 ∙ live_append g.0 st.scope container ∙ or_none (live_in st.scope container) (live_in g.0 container) e in
        let d = drops_part object depth (length inner.behind.containers) g.0 live (below_front (length inner.behind.containers) g.0 st.scope below) has inner.behind.at in
        let d2 = part_same object depth inner.behind.at (inner.behind.at + length (dropped g.0)) (dropped g.0) live (left_live object depth live g.0) (live_in st.scope)
        (λ container. sym (ap (λ (s : Scope). live_in s container && not (live_in g.0 container)) g.1 ∙ live_left (length inner.behind.containers) g.0 st.scope below container)) d in
        let d3 = subst (λ (l : List Instr). Part object depth inner.behind.at l (inner.behind.at + length l) live (live_in st.scope)) (sym drops_are) d2 in (
          then_part object depth st.at inner.behind.at (inner.behind.at + length drops) inner.code drops (live_in st.scope) live (live_in st.scope) r.0 d3,
          record { scoped = placed.scoped; below = below_wider (length st.containers) (length inner.behind.containers) st.scope (containers_grow (sequence_judged js) f.grows st) placed.below },
        );
  }
    where
      below_front : (bound : ℕ) (new scope : Scope) → AreBelow bound (new ++ scope) → AreBelow bound new
      below_front bound [] scope h = tt
      below_front bound (one ∷ new) scope h = (h.0, below_front _ new scope h.1)
