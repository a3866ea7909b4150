-- Where the instructions of straight code lead.
use Rattle.std.proofs.Common.{◌≡◌, ℕ, zero, suc, ◌+◌, ◌-◌, ◌*◌, ◌<◌, ◌≤◌, List, ◌∷◌, length, ℤ, pos, Ok, slice_set, slice_index_or, refl, sym, ap, subst, ◌∙◌, arith}
use Rattle.std.specs.Prelude.{Option, Some, None, Result, Err, slice_get, unwrap_or}
use Rattle.sk_base.specs.declared.number.Op.{Op}
use Rattle.sk_base.specs.declared.number.Trap.{Trap}
use Rattle.sk_base.specs.declared.number.Ty.{Ty}
use Rattle.sk_meaning.specs.Evaluation.{Argument, field_of}
use Rattle.sk_isa.specs.Coded.{Point, Routine, Next, by_trap, next_of}
use Rattle.sk_isa.specs.Configurations.{Goes, Stuck, going, giving}
use Rattle.sk_isa.specs.declared.code.Instr.{Instr}
use Rattle.sk_isa.specs.declared.code.Instr.TheVariants.{Push, Load, Field, Neg, Inv, Not, Wrap, Binary}
use Rattle.std.specs.Prelude.{IfSome}
use Rattle.std.proofs.lemmas.List.{length-set}
use Rattle.std.proofs.lemmas.Option.{IfSome_then, slice_get-get_or}
use Rattle.sk_columns.specs.Blocks.{IsDone, IsPushed, Leads, TakesOne, TakesTwo, point_of, stack_of}
use Rattle.sk_columns.specs.Cells.{cell_of, made_by}
use Rattle.sk_columns.specs.declared.combine.Action.{Action}
use Rattle.sk_columns.specs.declared.combine.Action.TheVariants as action
use Rattle.sk_columns.specs.declared.level.Level.{Level}
use Rattle.sk_columns.specs.declared.level.Level.TheVariants.{Here, Column, Number}
use Rattle.sk_columns.proofs.Stacks.{on_top, row_above}
use Rattle.sk_columns.specs.Known.{Known}

abbrev goes_to : Point → Next
goes_to point = Goes point

pub push-leads : (number : ℤ) (known : Known) (stack : List ℤ) → Leads (Push number) known stack (number ∷ stack)
push-leads number known stack = record { goes = λ routine at slots turns have. refl }

pub load-leads : (slot : ℕ) (number : ℤ) (known : Known) (stack : List ℤ) → known.slots slot ≡ Some number
    → Leads (Load slot) known stack (number ∷ stack)
load-leads slot number known stack is =
    record {
      goes = λ routine at slots turns have.
          ap (λ (o : Option ℤ). elim o [ Some value ↦ going {F = Trap} (point_of at stack slots turns) (value ∷ stack) | None ↦ Stuck ]) (have.stored slot number is);
    }

pub field-leads : (slot : ℕ) (name : List ℕ) (number : ℤ) (known : Known) (stack : List ℤ) → known.fields slot name ≡ Some number
    → Leads (Field slot name) known stack (number ∷ stack)
field-leads slot name number known stack is =
    record {
      goes = λ routine at slots turns have.
          let found = have.given slot name number is in
          ap (λ (o : Option Argument). elim o [ Some argument ↦ going {F = Trap} (point_of at stack slots turns) (field_of argument name ∷ stack) | None ↦ Stuck ]) found.1
          ∙ ap (λ (x : ℤ). goes_to (point_of (suc at) (x ∷ stack) slots turns)) found.2;
    }

pub two_binary : (instr : Instr) (op : Op) (ty : Ty) → instr ≡ Binary op ty → TakesTwo instr (action.Binary op ty)
two_binary instr op ty is =
    subst (λ (i : Instr). TakesTwo i (action.Binary op ty)) (sym is)
    (record {
      leads = λ known a b value rest made. record {
        goes = λ routine at slots turns have.
            ap (λ (r : Result ℤ Trap). giving by_trap (point_of at (b ∷ a ∷ rest) slots turns) rest r) made;
      };
    })

abbrev ok_value : ℤ → Result ℤ Trap
ok_value x = Ok x

of_ok : (x y : ℤ) → ok_value x ≡ ok_value y → x ≡ y
of_ok x y e = ap (λ (r : Result ℤ Trap). elim r [ Ok value ↦ value | Err trap ↦ x ]) e

one_by : (instr plain : Instr) (act : Action) (f : ℤ → ℤ) → ((a : ℤ) → made_by act a (pos 0) ≡ Ok (f a))
    → ((routine : Routine) (at : ℕ) (slots : List ℤ) (turns : ℕ) (a : ℤ) (rest : List ℤ)
    → next_of routine plain (point_of at (a ∷ rest) slots turns) ≡ Goes (point_of (suc at) (f a ∷ rest) slots turns))
    → instr ≡ plain → TakesOne instr act
one_by instr plain act f makes goes is =
    subst (λ (i : Instr). TakesOne i act) (sym is)
    (record {
      leads = λ known a value rest made. record {
        goes = λ routine at slots turns have.
            goes routine at slots turns a rest
            ∙ ap (λ (x : ℤ). goes_to (point_of (suc at) (x ∷ rest) slots turns)) (of_ok (f a) value (sym (makes a) ∙ made));
      };
    })

pub one_neg : (instr : Instr) (ty : Ty) → instr ≡ Neg ty → TakesOne instr (action.Negate ty)
one_neg instr ty is = one_by instr (Neg ty) (action.Negate ty) _ (λ a. refl) (λ routine at slots turns a rest. refl) is

pub one_inv : (instr : Instr) (ty : Ty) → instr ≡ Inv ty → TakesOne instr action.Invert
one_inv instr ty is = one_by instr (Inv ty) action.Invert _ (λ a. refl) (λ routine at slots turns a rest. refl) is

pub one_not : (instr : Instr) → instr ≡ Not → TakesOne instr action.Deny
one_not instr is = one_by instr Not action.Deny _ (λ a. refl) (λ routine at slots turns a rest. refl) is

pub one_wrap : (instr : Instr) → instr ≡ Wrap → TakesOne instr action.Wrap
one_wrap instr is = one_by instr Wrap action.Wrap _ (λ a. refl) (λ routine at slots turns a rest. refl) is

-- one level more
pub done_push : (instr : Instr) (known : ℕ → Known) (block height after : ℕ) (levels levels_after : List Level) (rows : List ℤ) (level : Level)
    → IsPushed level height levels after levels_after
    → ((place : ℕ) (stack : List ℤ) → place < block → Leads instr (known place) stack (cell_of level rows (height * block + place) (known place) ∷ stack))
    → IsDone instr known block height levels rows after levels_after rows
done_push instr known block height after levels levels_after rows level pushed leads = record {
  inside =
      let room = pushed.room in
      let more = pushed.more in
      let size : length levels_after ≡ length levels = ap length pushed.levels_are ∙ length-set levels height level in
      omega arith;
  leads = λ place within rest.
      subst (λ (n : ℕ). Leads instr (known place) (stack_of levels rows block place (known place) rest height) (stack_of levels_after rows block place (known place) rest n)) (sym pushed.more)
      (subst (λ (xs : List ℤ). Leads instr (known place) (stack_of levels rows block place (known place) rest height) xs)
      (sym (on_top levels levels_after rows rows block place (known place) rest height level within pushed.room pushed.levels_are (λ index less. refl)))
      (leads place (stack_of levels rows block place (known place) rest height) within));
}

-- a number is pushed
pub done_number : (instr : Instr) (number : ℤ) (known : ℕ → Known) (block height : ℕ) (levels levels_after : List Level) (rows : List ℤ) (pushed : Option ℕ)
    → instr ≡ Push number → IfSome pushed (λ after. IsPushed (Number number) height levels after levels_after)
    → IfSome pushed (λ after. IsDone instr known block height levels rows after levels_after rows)
done_number instr number known block height levels levels_after rows pushed is done =
    IfSome_then pushed done (λ after p. done_push instr known block height after levels levels_after rows (Number number) p
    (λ place stack within. subst (λ (i : Instr). Leads i (known place) stack (number ∷ stack)) (sym is) (push-leads number (known place) stack)))

-- a slot is loaded in which one number stands at all places
pub done_uniform : (slot : ℕ) (number : ℤ) (known : ℕ → Known) (block height : ℕ) (levels levels_after : List Level) (rows : List ℤ) (pushed : Option ℕ)
    → ((place : ℕ) → (known place).slots slot ≡ Some number) → IfSome pushed (λ after. IsPushed (Number number) height levels after levels_after)
    → IfSome pushed (λ after. IsDone (Load slot) known block height levels rows after levels_after rows)
done_uniform slot number known block height levels levels_after rows pushed is done =
    IfSome_then pushed done (λ after p. done_push (Load slot) known block height after levels levels_after rows (Number number) p
    (λ place stack within. load-leads slot number (known place) stack (is place)))

-- a slot is loaded that has a column
pub done_column : (slot : ℕ) (column : List ℤ) (known : ℕ → Known) (block height : ℕ) (levels levels_after : List Level) (rows : List ℤ) (pushed : Option ℕ)
    → block ≤ length column → ((place : ℕ) → place < length column → (known place).slots slot ≡ slice_get column place)
    → IfSome pushed (λ after. IsPushed (Column slot) height levels after levels_after)
    → IfSome pushed (λ after. IsDone (Load slot) known block height levels rows after levels_after rows)
done_column slot column known block height levels levels_after rows pushed long is done =
    IfSome_then pushed done (λ after p. done_push (Load slot) known block height after levels levels_after rows (Column slot) p
    (λ place stack within.
    let here : (known place).slots slot ≡ Some (slice_index_or column place (pos 0)) =
    is place (omega arith) ∙ slice_get-get_or column place (pos 0) (omega arith) in
    load-leads slot (unwrap_or ((known place).slots slot) (pos 0)) (known place) stack
    (here ∙ ap (λ (o : Option ℤ). Some (unwrap_or o (pos 0))) (sym here))))

-- a row is put on the levels
pub done_row : (instr : Instr) (known : ℕ → Known) (block height after : ℕ) (levels levels_after : List Level) (rows rows_after : List ℤ)
    → after ≡ suc height → height < length levels → levels_after ≡ slice_set levels height Here
    → ((index : ℕ) → index < height * block → slice_index_or rows_after index (pos 0) ≡ slice_index_or rows index (pos 0))
    → ((place : ℕ) (stack : List ℤ) → place < block → Leads instr (known place) stack (slice_index_or rows_after (height * block + place) (pos 0) ∷ stack))
    → IsDone instr known block height levels rows after levels_after rows_after
done_row instr known block height after levels levels_after rows rows_after more room is kept leads = record {
  inside = let size : length levels_after ≡ length levels = ap length is ∙ length-set levels height Here in omega arith;
  leads = λ place within rest.
      subst (λ (n : ℕ). Leads instr (known place) (stack_of levels rows block place (known place) rest height) (stack_of levels_after rows_after block place (known place) rest n)) (sym more)
      (subst (λ (xs : List ℤ). Leads instr (known place) (stack_of levels rows block place (known place) rest height) xs)
      (sym (on_top levels levels_after rows rows_after block place (known place) rest height Here within room is kept))
      (leads place (stack_of levels rows block place (known place) rest height) within));
}

-- a field is read that has consecutive numbers
pub done_field : (slot : ℕ) (name : List ℕ) (first : ℕ) (known : ℕ → Known) (block height after : ℕ) (levels levels_after : List Level) (rows rows_after : List ℤ)
    → ((place : ℕ) → (known place).fields slot name ≡ Some (pos (first + place)))
    → after ≡ suc height → height < length levels → levels_after ≡ slice_set levels height Here
    → ((index : ℕ) → index < height * block → slice_index_or rows_after index (pos 0) ≡ slice_index_or rows index (pos 0))
    → ((place : ℕ) → place < block → slice_index_or rows_after (height * block + place) (pos 0) ≡ pos (first + place))
    → IsDone (Field slot name) known block height levels rows after levels_after rows_after
done_field slot name first known block height after levels levels_after rows rows_after told more room is kept here =
    done_row (Field slot name) known block height after levels levels_after rows rows_after more room is kept
    (λ place stack within. field-leads slot name (slice_index_or rows_after (height * block + place) (pos 0)) (known place) stack
    (told place ∙ ap (λ (x : ℤ). Some x) (sym (here place within))))

-- one level in place of two
pub done_two : (instr : Instr) (act : Action) (known : ℕ → Known) (block height after : ℕ) (levels levels_after : List Level) (rows rows_after : List ℤ)
    → TakesTwo instr act → 2 ≤ height → height ≤ length levels → after ≡ height - 1 → after ≤ length levels_after → levels_after ≡ slice_set levels (height - 2) Here
    → ((index : ℕ) → index < (height - 2) * block → slice_index_or rows_after index (pos 0) ≡ slice_index_or rows index (pos 0))
    → ((place : ℕ) → place < block
    → made_by act (cell_of (slice_index_or levels (height - 2) Here) rows ((height - 2) * block + place) (known place))
    (cell_of (slice_index_or levels (height - 1) Here) rows ((height - 2) * block + block + place) (known place))
    ≡ Ok (slice_index_or rows_after ((height - 2) * block + place) (pos 0)))
    → IsDone instr known block height levels rows after levels_after rows_after
done_two instr act known block zero after levels levels_after rows rows_after takes two upto less inside is kept made = absurd (omega arith)
done_two instr act known block (suc zero) after levels levels_after rows rows_after takes two upto less inside is kept made = absurd (omega arith)
done_two instr act known block (suc (suc d)) after levels levels_after rows rows_after takes two upto less inside is kept made =
    let low : suc (suc d) - 2 ≡ d = omega arith in
    let high : suc (suc d) - 1 ≡ suc d = omega arith in
    let above : suc d * block ≡ d * block + block = row_above d block in
    let set : levels_after ≡ slice_set levels d Here = is ∙ ap (λ (n : ℕ). slice_set levels n Here) low in
    let below : (index : ℕ) → index < d * block → slice_index_or rows_after index (pos 0) ≡ slice_index_or rows index (pos 0) =
    subst (λ (n : ℕ). (index : ℕ) → index < n * block → slice_index_or rows_after index (pos 0) ≡ slice_index_or rows index (pos 0)) low kept in
    record {
      inside = inside;
      leads = λ place within rest.
          let stack = stack_of levels rows block place (known place) rest d in
          let value = slice_index_or rows_after (d * block + place) (pos 0) in
          let left = cell_of (slice_index_or levels d Here) rows (d * block + place) (known place) in
          let right = cell_of (slice_index_or levels (suc d) Here) rows (suc d * block + place) (known place) in
          let makes : made_by act left right ≡ Ok value =
          ap (λ (n : ℕ). made_by act left (cell_of (slice_index_or levels (suc d) Here) rows (n + place) (known place))) above
          ∙ subst (λ (n : ℕ). made_by act (cell_of (slice_index_or levels n Here) rows (n * block + place) (known place))
          (cell_of (slice_index_or levels (suc d) Here) rows (n * block + block + place) (known place)) ≡ Ok (slice_index_or rows_after (n * block + place) (pos 0))) low
          (subst (λ (n : ℕ). made_by act (cell_of (slice_index_or levels (suc (suc d) - 2) Here) rows ((suc (suc d) - 2) * block + place) (known place))
          (cell_of (slice_index_or levels n Here) rows ((suc (suc d) - 2) * block + block + place) (known place)) ≡ Ok (slice_index_or rows_after ((suc (suc d) - 2) * block + place) (pos 0))) high
          (made place within)) in
          subst (λ (n : ℕ). Leads instr (known place) (right ∷ left ∷ stack) (stack_of levels_after rows_after block place (known place) rest n)) (sym (less ∙ high))
          (subst (λ (xs : List ℤ). Leads instr (known place) (right ∷ left ∷ stack) xs)
          (sym (on_top levels levels_after rows rows_after block place (known place) rest d Here within (omega arith) set below))
          (takes.leads (known place) left right value stack makes));
    }

-- another level in place of one
pub done_one : (instr : Instr) (act : Action) (known : ℕ → Known) (block height : ℕ) (levels levels_after : List Level) (rows rows_after : List ℤ)
    → TakesOne instr act → 1 ≤ height → height ≤ length levels → height ≤ length levels_after → levels_after ≡ slice_set levels (height - 1) Here
    → ((index : ℕ) → index < (height - 1) * block → slice_index_or rows_after index (pos 0) ≡ slice_index_or rows index (pos 0))
    → ((place : ℕ) → place < block
    → made_by act (cell_of (slice_index_or levels (height - 1) Here) rows ((height - 1) * block + place) (known place)) (pos 0)
    ≡ Ok (slice_index_or rows_after ((height - 1) * block + place) (pos 0)))
    → IsDone instr known block height levels rows height levels_after rows_after
done_one instr act known block zero levels levels_after rows rows_after takes one upto inside is kept made = absurd (omega arith)
done_one instr act known block (suc d) levels levels_after rows rows_after takes one upto inside is kept made =
    let low : suc d - 1 ≡ d = omega arith in
    let set : levels_after ≡ slice_set levels d Here = is ∙ ap (λ (n : ℕ). slice_set levels n Here) low in
    let below : (index : ℕ) → index < d * block → slice_index_or rows_after index (pos 0) ≡ slice_index_or rows index (pos 0) =
    subst (λ (n : ℕ). (index : ℕ) → index < n * block → slice_index_or rows_after index (pos 0) ≡ slice_index_or rows index (pos 0)) low kept in
    record {
      inside = inside;
      leads = λ place within rest.
          let stack = stack_of levels rows block place (known place) rest d in
          let value = slice_index_or rows_after (d * block + place) (pos 0) in
          let left = cell_of (slice_index_or levels d Here) rows (d * block + place) (known place) in
          let makes : made_by act left (pos 0) ≡ Ok value =
          subst (λ (n : ℕ). made_by act (cell_of (slice_index_or levels n Here) rows (n * block + place) (known place)) (pos 0) ≡ Ok (slice_index_or rows_after (n * block + place) (pos 0))) low
          (made place within) in
          subst (λ (xs : List ℤ). Leads instr (known place) (left ∷ stack) xs)
          (sym (on_top levels levels_after rows rows_after block place (known place) rest d Here within (omega arith) set below))
          (takes.leads (known place) left value stack makes);
    }
