-- The code of single statements of main, each a sound piece.
use Rattle.std.proofs.Common.{◌≡◌, ℕ, suc, ◌+◌, ◌≤◌, List, [], ◌∷◌, ◌++◌, length, map, reverse, take, drop, All, Option, Some, None, refl, sym, ap, ◌∙◌, subst, arith, length-append}
use Rattle.std.proofs.lemmas.List.{append-nil}
use Rattle.std.proofs.Math.Seq.{drop-append_seam}
use Rattle.std.proofs.lemmas.Bool.{le-leb}
use Rattle.std.proofs.lemmas.List.Elements.{All-nil}
use Rattle.std.specs.Prelude.{true, false, Bool, ◌&&◌, ◌||◌, if◌then◌else◌, nat_le}
use Rattle.sk_base.specs.declared.number.Ty.{Ty}
use Rattle.sk_isa.specs.Soundness.{Left, leads_to, left_if, of_many, serves}
use Rattle.sk_isa.specs.declared.code.Instr.{Instr}
use Rattle.sk_isa.specs.declared.code.Instr.TheVariants as instr
use Rattle.sk_isa.specs.declared.object.Object.{Object}
use Rattle.sk_main_code.specs.MainSoundness.{left_in_main, lives_after, made_by, main_scalar, used_by}
use Rattle.sk_main_fits.specs.Fits.{fits, is_number}
use Rattle.sk_main_fits.specs.StatementFits.{Judged, behind_line, item_fits, items_fit, judge_step}
use Rattle.sk_main_scheme.specs.MainScheme.{Emitting, Named, Number, Whole, Called, Standing, all_emitted, around_at, item_emitted, made_of, main_piece, named_type, store_code, taking, type_in}
use Rattle.sk_main_sound.proofs.Expressions.{HasKnown, IsSound as IsSoundValue, expression_sound, wanted_value}
use Rattle.sk_main_sound.proofs.Parts.{Part, counted_part, nothing_part, part_same, return_part, taking_part}
use Rattle.sk_main_sound.proofs.Pieces.{nothing_made}
use Rattle.sk_main_sound.proofs.Scopes.{InScope, IsFound, live_in, name_found}
use Rattle.sk_main_sound.proofs.StatementNodes.{IsSound, Sounds, counted_sounds, grows_same, none_sound, pair_sound}
use Rattle.sk_main_sound.proofs.Values.{Stretch, nothing_piece}
use Rattle.sk_names.specs.Bindings.{bound_to}
use Rattle.sk_plain.proofs.Lists.{slice_get-seam}
use Rattle.sk_plain.proofs.Truths.{and_left, and_right}
use Rattle.sk_scheme.specs.Pieces.{wanted_code}
use Rattle.sk_scheme.specs.Scheme.{Known}
use Rattle.sk_scheme_sound.proofs.SoundPieces.{Aims, type_serves}
use Rattle.sk_tree.specs.declared.tree.Expr.{Expr}
use Rattle.sk_tree.specs.declared.tree.Instance as instances
use Rattle.sk_tree.specs.declared.tree.Item.{Item}
use Rattle.sk_tree.specs.declared.tree.Item.TheVariants.{Value, Text, End}
use Rattle.sk_tree.specs.declared.tree.What.TheOpen as what

or_nothing : (a : Bool) → (a || false) ≡ a
or_nothing true = refl
or_nothing false = refl

-- an instruction takes the topmost values, whatever they are
pub stack_taken : (ts types : List Ty) (count : ℕ) (test : Bool) (given : List Ty) → count ≡ length ts → test ≡ true
    → of_many count (ts ++ types) (λ taken rest. left_if test (given ++ rest)) ≡ Some (given ++ types)
stack_taken ts types count test given e is =
    let enough : nat_le (length ts) (length (ts ++ types)) ≡ true = le-leb _ _ (omega (arith, length-append ts types)) in
    let next : List Ty → List Ty → Left = λ taken rest. left_if test (given ++ rest) in
    ap (λ c. of_many c (ts ++ types) next) e
    ∙ ap (λ (b : Bool). if b then next (reverse (take (length ts) (ts ++ types))) (drop (length ts) (ts ++ types)) else None) enough
    ∙ ap (λ (l : List Ty). next (reverse (take (length ts) (ts ++ types))) l) (drop-append_seam ts types)
    ∙ ap (λ (b : Bool). left_if b (given ++ types)) is

module _ (object : Object) (depth : ℕ) (functions : List (List ℕ × Known)) (known : HasKnown object functions) where
  abbrev Sound : Judged → Type 0
  Sound judged = IsSound object depth functions judged

  abbrev value_of : (e : Expr) → IsSoundValue object depth functions e
  value_of e = expression_sound object depth functions known e

  -- the value of an expression, in its type or in another one
  value_stretch : (e : Expr) (st : Standing) → InScope object st.scope → fits e (around_at functions st) ≡ true → (at : ℕ) (types : List Ty) → length types + (main_piece e).depth (around_at functions st) ≤ depth
      → Stretch object depth (live_in st.scope) at ((main_piece e).code (around_at functions st) at) (at + length ((main_piece e).code (around_at functions st) at)) types
      ((main_piece e).ty (around_at functions st) ∷ types)
  value_stretch e st s fit at types low = (value_of e).stretch st.scope s fit at types low

  wanted_stretch : (ty : Ty) (e : Expr) (st : Standing) → InScope object st.scope → fits e (around_at functions st) ≡ true → (at : ℕ) (types : List Ty) → length types + (main_piece e).depth (around_at functions st) ≤ depth
      → Stretch object depth (live_in st.scope) at (wanted_code ty (main_piece e) (around_at functions st) at) (at + length (wanted_code ty (main_piece e) (around_at functions st) at)) types (ty ∷ types)
  wanted_stretch ty e st s fit at types low = wanted_value object depth functions ty (main_piece e) (fits e) (value_of e) st.scope s fit at types low

  -- ---- scalars

  store_slot : (slot : ℕ) (ty : Ty) (live : ℕ → Bool) (at : ℕ) (code : List Instr) → main_scalar object slot ≡ Some ty → 1 ≤ depth → Stretch object depth live at code (at + length code) [] (ty ∷ [])
      → Part object depth at (code ++ instr.Store slot ∷ []) (at + length (code ++ instr.Store slot ∷ [])) live live
  store_slot slot ty live at code there low f =
      let empty : List Ty = [] in
      let effect : left_in_main object (instr.Store slot) (ty ∷ []) ≡ Some empty =
      ap (λ (o : Option Ty). elim o as (λ x. Option (List Ty)) [ Some wanted ↦ left_if (serves ty wanted) empty | None ↦ None ]) there ∙ ap (λ (b : Bool). left_if b empty) (type_serves ty) in
      taking_part object depth (instr.Store slot) at (at + length code) code (ty ∷ []) live live f (λ names. effect) low (λ container e. let no : ⊥ = cc in absurd no)
      (All-nil (λ container. live container ≡ true)) (λ container. refl) refl tt

  store_part : (n : Option Named) (live : ℕ → Bool) (at : ℕ) (code : List Instr) → IsFound object live n → is_number n ≡ true → 1 ≤ depth → Stretch object depth live at code (at + length code) [] (named_type n ∷ [])
      → Part object depth at (code ++ store_code n) (at + length (code ++ store_code n)) live live
  store_part (Some (Number slot ty)) live at code there e low f = store_slot slot ty live at code there low f
  store_part (Some (Whole container ty)) live at code there e low f = let no : ⊥ = cc in absurd no
  store_part (Some (Called made)) live at code there e low f = let no : ⊥ = cc in absurd no
  store_part None live at code there e low f = let no : ⊥ = cc in absurd no

  abbrev assign_emits : List ℕ → Expr → Emitting
  assign_emits name e = taking (λ around at. wanted_code (type_in around name) (main_piece e) around at) (main_piece e).depth (λ around standing. store_code (bound_to name around.scope))

  assign_sounds : (name : List ℕ) (e : Expr) → Sounds object depth functions (assign_emits name e) (λ fs st. is_number (bound_to name st.scope) && fits e (around_at fs st))
  assign_sounds name e st fit placed holds low =
      let a = around_at functions st in
      let number = and_left (is_number (bound_to name st.scope)) (fits e a) fit in
      let fine = and_right (is_number (bound_to name st.scope)) (fits e a) fit in
      let ty : Ty = type_in a name in
      let code : List Instr = wanted_code ty (main_piece e) a st.at in
      let high = (value_of e).high st.scope placed.scoped fine in (
        store_part (bound_to name st.scope) (live_in st.scope) st.at code (name_found object name st.scope placed.scoped) number (omega (arith, low, high))
            (wanted_stretch ty e st placed.scoped fine st.at [] (omega (arith, low))),
        record { scoped = placed.scoped; below = placed.below },
      )

  pub assign_sound : (name : List ℕ) (e : Expr) (line : ℕ) → Sound (judge_step (what.Assign name e) line)
  assign_sound name e line = record {
    grows = grows_same object depth functions (judge_step (what.Assign name e) line) (λ st. omega arith) (λ st. refl) (λ st. refl) (λ st. refl);
    part = counted_sounds object depth functions line (assign_emits name e) (λ fs st. is_number (bound_to name st.scope) && fits e (around_at fs st)) (assign_sounds name e);
  }

  pub declare_sound : (ty : Ty) (name : List ℕ) (e : Expr) (line : ℕ) → Sound (judge_step (what.Declare ty name e) line)
  declare_sound ty name e line = record {
    grows = record {
      at = λ st. omega arith;
      scope = λ st. ((name, Number (length st.slots) ty) ∷ [], refl);
      slots = λ st. (ty ∷ [], refl);
      containers = λ st. ([], sym (append-nil st.containers));
      light = λ is st container. or_nothing (live_in st.scope container);
      step = λ is st. let no : ⊥ = cc in absurd no;
    };
    part = λ st fit placed holds low.
        let a = around_at functions st in
        let high = (value_of e).high st.scope placed.scoped fit in
        let there : main_scalar object (length st.slots) ≡ Some ty = holds.slots (length st.slots) ty (slice_get-seam st.slots ty []) in
        let at1 : ℕ = st.at + 1 in
        let code : List Instr = wanted_code ty (main_piece e) a at1 in
        let all : List Instr = code ++ instr.Store (length st.slots) ∷ [] in
        let end : ℕ = at1 + length all in
        let live = live_in st.scope in
        let more = live_in ((name, Number (length st.slots) ty) ∷ st.scope) in
        let stored : Part object depth at1 all end live live =
        store_slot (length st.slots) ty live at1 code there (omega (arith, low, high)) (wanted_stretch ty e st placed.scoped fit at1 [] (omega (arith, low))) in (
          counted_part object depth line st.at end all live more (part_same object depth at1 end all live live more (λ container. or_nothing (live container)) stored),
          record { scoped = (there, placed.scoped); below = (tt, placed.below) },
        );
  }

  -- ---- the end of the run

  abbrev return_emits : Expr → Emitting
  return_emits e = taking (main_piece e).code (main_piece e).depth (λ around standing. instr.Pop ∷ instr.Halt ∷ [])

  return_sounds : (e : Expr) → Sounds object depth functions (return_emits e) (λ fs st. fits e (around_at fs st))
  return_sounds e st fit placed holds low =
      let a = around_at functions st in
      let high = (value_of e).high st.scope placed.scoped fit in
      let code : List Instr = (main_piece e).code a st.at in (
        return_part object depth ((main_piece e).ty a) st.at (st.at + length code) code (live_in st.scope) (live_in st.scope) (omega (arith, low, high)) (value_stretch e st placed.scoped fit st.at [] (omega (arith, low))),
        record { scoped = placed.scoped; below = placed.below },
      )

  pub return_sound : (e : Expr) (line : ℕ) → Sound (judge_step (what.Return e) line)
  return_sound e line = record {
    grows = grows_same object depth functions (judge_step (what.Return e) line) (λ st. omega arith) (λ st. refl) (λ st. refl) (λ st. refl);
    part = counted_sounds object depth functions line (return_emits e) (λ fs st. fits e (around_at fs st)) (return_sounds e);
  }

  -- ---- what is printed

  abbrev items_judged : List Item → Judged
  items_judged items = record { emits = all_emitted (map item_emitted items); fits = λ fs st. items_fit items (around_at fs st); is_light = false; is_step = false }

  abbrev item_judged : Item → Judged
  item_judged item = record { emits = item_emitted item; fits = λ fs st. item_fits item (around_at fs st); is_light = false; is_step = false }

  -- an instruction without values
  plain_part : (i : Instr) (at : ℕ) (live : ℕ → Bool) → left_in_main object i [] ≡ Some [] → made_by i ≡ None → used_by i ≡ []
      → ((container : ℕ) → live container ≡ lives_after i live container) → leads_to i (at + 0) ≡ suc (at + 0) ∷ []
      → Aims (λ to. ⊥) i → Part object depth at (i ∷ []) (at + 1) live live
  plain_part i at live effect made used lives leads aims =
      taking_part object depth i at (at + 0) [] [] live live (nothing_piece object depth live at []) (λ names. effect) (omega arith)
      (λ container e. nothing_made (made_by i) container live made e)
      (subst (λ (l : List ℕ). All (λ container. live container ≡ true) l) (sym used) (All-nil (λ container. live container ≡ true))) lives leads aims

  item_sound : (item : Item) → Sound (item_judged item)
  item_sound (Value e) = record {
    grows = grows_same object depth functions (item_judged (Value e)) (λ st. refl) (λ st. refl) (λ st. refl) (λ st. refl);
    part = λ st fit placed holds low.
        let a = around_at functions st in
        let high = (value_of e).high st.scope placed.scoped fit in
        let code : List Instr = (main_piece e).code a st.at in
        let live = live_in st.scope in
        let ty : Ty = (main_piece e).ty a in (
          taking_part object depth instr.Print st.at (st.at + length code) code (ty ∷ []) live live (value_stretch e st placed.scoped fit st.at [] (omega (arith, low)))
              (λ names. stack_taken (ty ∷ []) [] 1 true [] refl refl) (omega (arith, low, high)) (λ container e. let no : ⊥ = cc in absurd no)
              (All-nil (λ container. live container ≡ true)) (λ container. refl) refl tt,
          record { scoped = placed.scoped; below = placed.below },
        );
  }
  item_sound (Text text) = record {
    grows = grows_same object depth functions (item_judged (Text text)) (λ st. refl) (λ st. refl) (λ st. refl) (λ st. refl);
    part = λ st fit placed holds low. (
      plain_part (instr.Text text) st.at (live_in st.scope) (stack_taken [] [] 0 true [] refl refl) refl refl (λ container. refl) refl tt,
      record { scoped = placed.scoped; below = placed.below },
    );
  }
  item_sound End = record {
    grows = grows_same object depth functions (item_judged End) (λ st. refl) (λ st. refl) (λ st. refl) (λ st. refl);
    part = λ st fit placed holds low. (
      plain_part instr.Endl st.at (live_in st.scope) (stack_taken [] [] 0 true [] refl refl) refl refl (λ container. refl) refl tt,
      record { scoped = placed.scoped; below = placed.below },
    );
  }

  items_sound : (items : List Item) → Sound (items_judged items)
  items_sound [] = record {
    grows = (none_sound object depth functions).grows;
    part = (none_sound object depth functions).part;
  }
  items_sound (Value e ∷ items) =
      let r = pair_sound object depth functions (item_judged (Value e)) (items_judged items) (item_sound (Value e)) (items_sound items) in record { grows = r.grows; part = r.part }
  items_sound (Text text ∷ items) =
      let r = pair_sound object depth functions (item_judged (Text text)) (items_judged items) (item_sound (Text text)) (items_sound items) in record { grows = r.grows; part = r.part }
  items_sound (End ∷ items) =
      let r = pair_sound object depth functions (item_judged End) (items_judged items) (item_sound End) (items_sound items) in record { grows = r.grows; part = r.part }

  pub print_sound : (items : List Item) (line : ℕ) → Sound (judge_step (what.Print items) line)
  print_sound items line =
      let f = items_sound items in
      record {
        grows = record {
          at = λ st. let e = f.grows.at (behind_line st) in omega (arith, e);
          scope = λ st. f.grows.scope (behind_line st);
          slots = λ st. f.grows.slots (behind_line st);
          containers = λ st. f.grows.containers (behind_line st);
          light = λ e st. let no : ⊥ = cc in absurd no;
          step = λ e st. let no : ⊥ = cc in absurd no;
        };
        part = counted_sounds object depth functions line (all_emitted (map item_emitted items)) (λ fs st. items_fit items (around_at fs st)) f.part;
      }

  -- ---- instances

  pub instance_sound : (instance : instances.Instance) (line : ℕ) → Sound (judge_step (what.Instance instance) line)
  instance_sound instance line = record {
    grows = record {
      at = λ st. omega arith;
      scope = λ st. ((instance.name, Called (made_of functions (length st.instances) instance)) ∷ [], refl);
      slots = λ st. ([], sym (append-nil st.slots));
      containers = λ st. ([], sym (append-nil st.containers));
      light = λ e st. let no : ⊥ = cc in absurd no;
      step = λ e st. let no : ⊥ = cc in absurd no;
    };
    part = λ st fit placed holds low.
        let named : List ℕ × Named = (instance.name, Called (made_of functions (length st.instances) instance)) in
        let at1 : ℕ = st.at + 1 in
        let live = live_in st.scope in
        let more = live_in (named ∷ st.scope) in (
          counted_part object depth line st.at (at1 + 0) [] live more (part_same object depth at1 (at1 + 0) [] live live more (λ container. or_nothing (live container)) (nothing_part object depth at1 live)),
          record { scoped = (tt, placed.scoped); below = (tt, placed.below) },
        );
  }
