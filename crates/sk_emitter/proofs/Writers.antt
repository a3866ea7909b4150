-- Statements written one after another.
use Rattle.std.proofs.Common.{◌≡◌, ℕ, ◌+◌, ◌-◌, max, drop, List, [], ◌∷◌, ◌++◌, length, map, refl, sym, ap, ◌∙◌, subst, arith, append_assoc, append-nil, length-append}
use Rattle.sk_base.specs.declared.number.Ty.{Ty}
use Rattle.sk_tree.specs.declared.tree.ParamKind.{ParamKind}
use Rattle.sk_tree.specs.declared.tree.Statement.{Statement}
use Rattle.sk_scheme.specs.Scheme.{Slot, Known, Around, Emitting, Emitted, Within, Standing, emitting_of, all_emitted, block_emitted, behind}
use Rattle.sk_emitter.specs.declared.statements.Writer.{Writer}
use Rattle.sk_emitter.specs.Written.{Writes, within_of, standing_of}
use Rattle.sk_scheme.proofs.Declared.{all_extend, left_again}

pub within_as : (old new : Writer) → new.names.functions ≡ old.names.functions → new.ret ≡ old.ret → within_of new ≡ within_of old
within_as old new functions ret =
    let P : List (List ℕ × Known) → Within = λ f. record { functions = f; ret = new.ret } in
    let Q : Ty → Within = λ t. record { functions = old.names.functions; ret = t } in
    ap P functions ∙ ap Q ret

pub standing_as : (new : Writer) (at : ℕ) (scope : List (List ℕ × Slot)) (slots : List ParamKind)
    → length new.code.items ≡ at → new.names.scope ≡ scope → new.slots.items ≡ slots
    → standing_of new ≡ record { at = at; scope = scope; slots = slots }
standing_as new at scope slots at_is scope_is slots_is =
    let P : ℕ → Standing = λ n. record { at = n; scope = new.names.scope; slots = new.slots.items } in
    let Q : List (List ℕ × Slot) → Standing = λ s. record { at = at; scope = s; slots = new.slots.items } in
    let R : List ParamKind → Standing = λ k. record { at = at; scope = scope; slots = k } in
    ap P at_is ∙ ap Q scope_is ∙ ap R slots_is

pub writes_within : (x : Emitting) (old new : Writer) (depth : ℕ) → Writes x old new depth → within_of new ≡ within_of old
writes_within x old new depth writes =
    within_as old new (ap (λ (around : Around). around.functions) writes.names) writes.ret

pub writes_standing : (x : Emitting) (old new : Writer) (depth : ℕ) → Writes x old new depth
    → standing_of new ≡ behind (standing_of old) (x (within_of old) (standing_of old))
writes_standing x old new depth writes =
    let one : Emitted = x (within_of old) (standing_of old) in
    standing_as new (length old.code.items + length one.code) one.scope one.slots
    (ap length writes.code ∙ length-append old.code.items one.code)
    (ap (λ (around : Around). around.scope) writes.names)
    writes.slots

-- what an emitting leaves where it begins as another
pub emitted_as : (x : Emitting) (w v : Within) (s t : Standing) → w ≡ v → s ≡ t → x w s ≡ x v t
emitted_as x w v s t within standing =
    ap (λ (w : Within). x w s) within ∙ ap (λ (s : Standing). x v s) standing

-- What is written so far and what is left are the whole.
pub record Continues (whole left : List Statement) (first now : Writer) (depth : ℕ) : Type 0 where
  pub code : now.code.items ++ (all_emitted (map emitting_of left) (within_of now) (standing_of now)).code
      ≡ first.code.items ++ (all_emitted (map emitting_of whole) (within_of first) (standing_of first)).code
  pub functions : now.names.functions ≡ first.names.functions
  pub scope : (all_emitted (map emitting_of left) (within_of now) (standing_of now)).scope
      ≡ (all_emitted (map emitting_of whole) (within_of first) (standing_of first)).scope
  pub slots : (all_emitted (map emitting_of left) (within_of now) (standing_of now)).slots
      ≡ (all_emitted (map emitting_of whole) (within_of first) (standing_of first)).slots
  pub ret : now.ret ≡ first.ret
  pub depth_is : max depth (all_emitted (map emitting_of left) (within_of now) (standing_of now)).depth
      ≡ (all_emitted (map emitting_of whole) (within_of first) (standing_of first)).depth

pub continues_first : (whole : List Statement) (first : Writer) → Continues whole whole first first 0
continues_first whole first = record {
  code = refl;
  functions = refl;
  scope = refl;
  slots = refl;
  ret = refl;
  depth_is = omega arith;
}

pub continues_more : (whole left : List Statement) (x : Statement) (first now new : Writer) (depth own : ℕ)
    → Continues whole (x ∷ left) first now depth → Writes (emitting_of x) now new own
    → Continues whole left first new (max depth own)
continues_more whole left x first now new depth own continues writes =
    let one : Emitted = emitting_of x (within_of now) (standing_of now) in
    let rest : Emitting = all_emitted (map emitting_of left) in
    let same : rest (within_of new) (standing_of new) ≡ rest (within_of now) (behind (standing_of now) one) =
    emitted_as rest (within_of new) (within_of now) (standing_of new) (behind (standing_of now) one)
    (writes_within (emitting_of x) now new own writes) (writes_standing (emitting_of x) now new own writes) in
    record {
      code = ap (λ l. l ++ (rest (within_of new) (standing_of new)).code) writes.code
          ∙ ap (λ (e : Emitted). (now.code.items ++ one.code) ++ e.code) same
          ∙ append_assoc now.code.items one.code (rest (within_of now) (behind (standing_of now) one)).code
          ∙ continues.code;
      functions = ap (λ (around : Around). around.functions) writes.names ∙ continues.functions;
      scope = ap (λ (e : Emitted). e.scope) same ∙ continues.scope;
      slots = ap (λ (e : Emitted). e.slots) same ∙ continues.slots;
      ret = writes.ret ∙ continues.ret;
      depth_is = ap (λ (e : Emitted). max (max depth own) e.depth) same
          ∙ ap (λ n. max (max depth n) (rest (within_of now) (behind (standing_of now) one)).depth) writes.depth_is
          ∙ (let e : max (max depth one.depth) (rest (within_of now) (behind (standing_of now) one)).depth
          ≡ max depth (max one.depth (rest (within_of now) (behind (standing_of now) one)).depth) = omega arith in e)
          ∙ continues.depth_is;
    }

pub continues_end : (whole : List Statement) (first now : Writer) (depth : ℕ)
    → Continues whole [] first now depth → Writes (all_emitted (map emitting_of whole)) first now depth
continues_end whole first now depth continues =
    let all : Emitted = all_emitted (map emitting_of whole) (within_of first) (standing_of first) in
    let P : List (List ℕ × Known) → Around = λ f. record { functions = f; scope = now.names.scope } in
    let Q : List (List ℕ × Slot) → Around = λ s. record { functions = first.names.functions; scope = s } in
    record {
      code = sym (append-nil now.code.items) ∙ continues.code;
      names = ap P continues.functions ∙ ap Q continues.scope;
      slots = continues.slots;
      ret = continues.ret;
      depth_is = (let e : depth ≡ max depth 0 = omega arith in e) ∙ continues.depth_is;
    }

-- a block: its statements, after which as many names are left as before
pub writes_block : (ss : List Statement) (old middle new : Writer) (outer depth : ℕ)
    → outer ≡ length old.names.scope
    → Writes (all_emitted (map emitting_of ss)) old middle depth
    → new ≡ record middle { names = record { functions = middle.names.functions; scope = drop (length middle.names.scope - outer) middle.names.scope } }
    → Writes (block_emitted (map emitting_of ss)) old new depth
writes_block ss old middle new outer depth outer_is writes is =
    let all : Emitted = all_emitted (map emitting_of ss) (within_of old) (standing_of old) in
    let scope : middle.names.scope ≡ all.scope = ap (λ (around : Around). around.scope) writes.names in
    let back : drop (length middle.names.scope - outer) middle.names.scope ≡ old.names.scope =
    ap (λ (s : List (List ℕ × Slot)). drop (length s - outer) s) scope
    ∙ left_again old.names.scope all.scope outer (all_extend ss (within_of old) (standing_of old)) outer_is in
    let functions : middle.names.functions ≡ old.names.functions = ap (λ (around : Around). around.functions) writes.names in
    let P : List (List ℕ × Known) → Around = λ f. record { functions = f; scope = drop (length middle.names.scope - outer) middle.names.scope } in
    let Q : List (List ℕ × Slot) → Around = λ s. record { functions = old.names.functions; scope = s } in
    subst (λ (w : Writer). Writes (block_emitted (map emitting_of ss)) old w depth) (sym is) (record {
      code = writes.code;
      names = ap P functions ∙ ap Q back;
      slots = writes.slots;
      ret = writes.ret;
      depth_is = writes.depth_is;
    })
