-- What the code of statements of main names is there, from that of their parts: what is asked, sequences, and blocks.
use Rattle.std.proofs.Common.{◌≡◌, ℕ, ◌-◌, List, [], length, take, Some, slice_get, refl}
use Rattle.std.specs.Prelude.{true, false, ◌&&◌}
use Rattle.sk_base.specs.declared.number.Ty.{Ty}
use Rattle.sk_isa.specs.declared.object.Object.{Object}
use Rattle.sk_main_code.specs.MainSoundness.{main_scalar}
use Rattle.sk_main_fits.specs.StatementFits.{Judged, Test, all_emits, behind_line, sequence_fits}
use Rattle.sk_main_names.proofs.Scopes.{Scope, InScope, IsMap, Names, dropped_named, names_append, taken_in_scope}
use Rattle.sk_main_scheme.specs.MainScheme.{Emitted, Emitting, Standing, all_emitted, block_emitted, counted, dropped, made_of, then_emitted}
use Rattle.sk_plain.proofs.Truths.{and_left, and_right}
use Rattle.sk_scheme.specs.Scheme.{Known}
use Rattle.sk_tree.specs.declared.declared.Declared.{Declared}
use Rattle.sk_tree.specs.declared.tree.Instance as instances

-- statements one after another, as one
abbrev pub sequence_judged : List Judged → Judged
sequence_judged js = record { emits = all_emitted (all_emits js); fits = sequence_fits js; is_light = false; is_step = false }

abbrev pub block_judged : List Judged → Judged
block_judged js = record { emits = block_emitted (all_emits js); fits = sequence_fits js; is_light = false; is_step = false }

-- a statement, and what follows it
abbrev pub pair_judged : Judged → Judged → Judged
pair_judged j1 j2 =
    record { emits = then_emitted j1.emits j2.emits; fits = λ fs st. j1.fits fs st && j2.fits fs (j1.emits fs st).behind; is_light = false; is_step = false }

module _ (object : Object) (functions : List (List ℕ × Known)) where
  -- the slots, the containers and the instances so far are the object's first ones
  pub record Holds (types : List Ty) (declareds : List Declared) (mades : List instances.Instance) : Type 0 where
    pub slots : (slot : ℕ) (ty : Ty) → slice_get types slot ≡ Some ty → main_scalar object slot ≡ Some ty
    pub containers : (number : ℕ) (declared : Declared) → slice_get declareds number ≡ Some declared → slice_get object.containers number ≡ Some declared
    pub instances : (number : ℕ) (instance : instances.Instance) → slice_get mades number ≡ Some instance → IsMap object (made_of functions number instance)

  abbrev pub Held : Standing → Type 0
  Held st = Holds st.slots st.containers st.instances

  -- what the code of a statement that fits names is there, and so is what the names stand for that are in scope behind it
  abbrev pub Naming : Emitting → Test → Type 0
  Naming emits test =
      (st : Standing) → test functions st ≡ true → InScope object st.scope → Held (emits functions st).behind
      → Names object (emits functions st).code × InScope object (emits functions st).behind.scope

  pub record IsNamed (judged : Judged) : Type 0 where
    pub before : (st : Standing) → Held (judged.emits functions st).behind → Held st
    pub naming : Naming judged.emits judged.fits

  -- no statement
  pub none_named : IsNamed (sequence_judged [])
  none_named = record {
    before = λ st held. held;
    naming = λ st fit s held. (refl, s);
  }

  -- a statement, and what follows it
  pub pair_named : (j1 j2 : Judged) → IsNamed j1 → IsNamed j2 → IsNamed (pair_judged j1 j2)
  pair_named j1 j2 f1 f2 = record {
    before = λ st held. f1.before st (f2.before (j1.emits functions st).behind held);
    naming = λ st fit s held.
        let one : Emitted = j1.emits functions st in
        let two : Emitted = j2.emits functions one.behind in
        let r1 = f1.naming st (and_left (j1.fits functions st) (j2.fits functions one.behind) fit) s (f2.before one.behind held) in
        let r2 = f2.naming one.behind (and_right (j1.fits functions st) (j2.fits functions one.behind) fit) r1.1 held in
        (names_append object one.code two.code r1.0 r2.0, r2.1);
  }

  -- a statement that is counted first
  pub counted_naming : (line : ℕ) (emits : Emitting) (test : Test) → Naming emits test → Naming (counted line emits) (λ fs st. test fs (behind_line st))
  counted_naming line emits test f st fit s held = let r = f (behind_line st) fit s held in (r.0, r.1)

  -- a block, whose names end with it, and whose containers are dropped
  pub block_named : (js : List Judged) → IsNamed (sequence_judged js) → IsNamed (block_judged js)
  block_named js f = record {
    before = λ st held. f.before st held;
    naming = λ st fit s held.
        let inner : Emitted = all_emitted (all_emits js) functions st in
        let new : Scope = take (length inner.behind.scope - length st.scope) inner.behind.scope in
        let r = f.naming st fit s held in
        let in_scope : InScope object new = taken_in_scope object (length inner.behind.scope - length st.scope) inner.behind.scope r.1 in
        (names_append object inner.code (dropped new) r.0 (dropped_named object new in_scope), s);
  }
