-- Statements with blocks are written.
use Rattle.std.proofs.Common.{◌≡◌, ℕ, ◌+◌, ◌-◌, max, List, [], ◌∷◌, ◌++◌, length, drop, map, ap, ◌∙◌, arith, append_assoc, length-append}
use Rattle.std.specs.Prelude.{slice_set}
use Rattle.sk_tree.specs.declared.tree.Statement.{Statement}
use Rattle.sk_scheme.specs.Scheme.{Slot, Known, Around, Compiled, Emitting, Emitted, Standing, emitting_of, block_emitted, if_emitted, if_else_emitted, loop_emitted, behind}
use Rattle.sk_isa.specs.declared.code.Instr.{Instr}
use Rattle.sk_isa.specs.declared.code.Instr.TheVariants.{Zero, Jump, Turn}
use Rattle.sk_emitter.specs.declared.statements.Writer.{Writer}
use Rattle.sk_emitter.specs.Written.{Writes, within_of, standing_of, turns_emitted}
use Rattle.sk_scheme.proofs.Declared.{statement_extends, left_again}
use Rattle.sk_emitter.proofs.Filled.{behind_one, behind_two, if_filled, choice_filled, loop_filled}
use Rattle.sk_emitter.proofs.Writers.{within_as, standing_as, writes_within, writes_standing, emitted_as}

-- a writer with the same names, slots and type
pub record Keeps (old new : Writer) : Type 0 where
  pub names : new.names ≡ old.names
  pub ret : new.ret ≡ old.ret
  pub slots : new.slots.items ≡ old.slots.items

kept_within : (old new : Writer) → Keeps old new → within_of new ≡ within_of old
kept_within old new keeps = within_as old new (ap (λ (around : Around). around.functions) keeps.names) keeps.ret

kept_standing : (old new : Writer) (at : ℕ) → Keeps old new → length new.code.items ≡ at
    → standing_of new ≡ record { at = at; scope = old.names.scope; slots = old.slots.items }
kept_standing old new at keeps at_is =
    standing_as new at old.names.scope old.slots.items at_is (ap (λ (around : Around). around.scope) keeps.names) keeps.slots

pub writes_only : (test : Compiled) (one : List Statement) (old inside middle new : Writer) (c1 : List Instr) (n ends d1 d2 depth : ℕ)
    → c1 ≡ old.code.items ++ test.code old.names (length old.code.items) → d1 ≡ test.depth old.names
    → n ≡ length c1 → inside.code.items ≡ c1 ++ Zero 0 ∷ [] → Keeps old inside
    → Writes (block_emitted (map emitting_of one)) inside middle d2
    → ends ≡ length middle.code.items → new.code.items ≡ slice_set middle.code.items n (Zero ends) → Keeps middle new
    → depth ≡ max d1 d2
    → Writes (if_emitted test (map emitting_of one)) old new depth
writes_only test one old inside middle new c1 n ends d1 d2 depth e1 f1 en e2 keeps writes ee filled last deepest =
    let base : List Instr = old.code.items in
    let first : List Instr = test.code old.names (length base) in
    let block : Emitting = block_emitted (map emitting_of one) in
    let at : ℕ = length base + length first + 1 in
    let standing : Standing = record { at = at; scope = old.names.scope; slots = old.slots.items } in
    let inner : Emitted = block (within_of old) standing in
    let same : block (within_of inside) (standing_of inside) ≡ inner =
    emitted_as block (within_of inside) (within_of old) (standing_of inside) standing (kept_within old inside keeps)
    (kept_standing old inside at keeps (behind_one base first c1 inside.code.items (Zero 0) e1 e2)) in
    let inner_depth : d2 ≡ inner.depth = writes.depth_is ∙ ap (λ (e : Emitted). e.depth) same in
    record {
      code = filled ∙ if_filled base first inner.code c1 inside.code.items middle.code.items n ends e1 en e2
          (writes.code ∙ ap (λ (e : Emitted). inside.code.items ++ e.code) same) ee;
      names = last.names ∙ writes.names ∙ keeps.names;
      slots = last.slots ∙ writes.slots ∙ ap (λ (e : Emitted). e.slots) same;
      ret = last.ret ∙ writes.ret ∙ keeps.ret;
      depth_is = deepest ∙ ap (λ k. max k d2) f1 ∙ ap (λ k. max (test.depth old.names) k) inner_depth;
    }

pub writes_choice : (test : Compiled) (one other : List Statement) (old inside middle inside' middle' new : Writer) (c1 : List Instr)
    (n m third ends d1 d2 d3 depth : ℕ)
    → c1 ≡ old.code.items ++ test.code old.names (length old.code.items) → d1 ≡ test.depth old.names
    → n ≡ length c1 → inside.code.items ≡ c1 ++ Zero 0 ∷ [] → Keeps old inside
    → Writes (block_emitted (map emitting_of one)) inside middle d2
    → m ≡ length middle.code.items → inside'.code.items ≡ middle.code.items ++ Zero 0 ∷ [] → Keeps middle inside'
    → third ≡ length inside'.code.items
    → Writes (block_emitted (map emitting_of other)) inside' middle' d3
    → ends ≡ length middle'.code.items
    → new.code.items ≡ slice_set (slice_set middle'.code.items n (Zero third)) m (Jump ends) → Keeps middle' new
    → depth ≡ max d1 (max d2 d3)
    → Writes (if_else_emitted test (map emitting_of one) (map emitting_of other)) old new depth
writes_choice test one other old inside middle inside' middle' new c1 n m third ends d1 d2 d3 depth e1 f1 en e2 keeps writes em e4 keeps' et writes' ee filled last deepest =
    let base : List Instr = old.code.items in
    let first : List Instr = test.code old.names (length base) in
    let block : Emitting = block_emitted (map emitting_of one) in
    let block' : Emitting = block_emitted (map emitting_of other) in
    let at : ℕ = length base + length first + 1 in
    let standing : Standing = record { at = at; scope = old.names.scope; slots = old.slots.items } in
    let inner : Emitted = block (within_of old) standing in
    let same : block (within_of inside) (standing_of inside) ≡ inner =
    emitted_as block (within_of inside) (within_of old) (standing_of inside) standing (kept_within old inside keeps)
    (kept_standing old inside at keeps (behind_one base first c1 inside.code.items (Zero 0) e1 e2)) in
    let e3 : middle.code.items ≡ inside.code.items ++ inner.code = writes.code ∙ ap (λ (e : Emitted). inside.code.items ++ e.code) same in
    let at' : ℕ = length base + length first + length inner.code + 2 in
    let standing' : Standing = record { at = at'; scope = old.names.scope; slots = inner.slots } in
    let last' : Emitted = block' (within_of old) standing' in
    let names' : inside'.names ≡ old.names = keeps'.names ∙ writes.names ∙ keeps.names in
    let ret' : inside'.ret ≡ old.ret = keeps'.ret ∙ writes.ret ∙ keeps.ret in
    let slots' : inside'.slots.items ≡ inner.slots = keeps'.slots ∙ writes.slots ∙ ap (λ (e : Emitted). e.slots) same in
    let same' : block' (within_of inside') (standing_of inside') ≡ last' =
    emitted_as block' (within_of inside') (within_of old) (standing_of inside') standing'
    (within_as old inside' (ap (λ (around : Around). around.functions) names') ret')
    (standing_as inside' at' old.names.scope inner.slots
    (behind_two base first inner.code c1 inside.code.items middle.code.items inside'.code.items (Zero 0) (Zero 0) e1 e2 e3 e4)
    (ap (λ (around : Around). around.scope) names') slots') in
    let inner_depth : d2 ≡ inner.depth = writes.depth_is ∙ ap (λ (e : Emitted). e.depth) same in
    let else_depth : d3 ≡ last'.depth = writes'.depth_is ∙ ap (λ (e : Emitted). e.depth) same' in
    record {
      code = filled ∙ choice_filled base first inner.code last'.code c1 inside.code.items middle.code.items inside'.code.items middle'.code.items n m third ends
          e1 en e2 e3 em e4 et (writes'.code ∙ ap (λ (e : Emitted). inside'.code.items ++ e.code) same') ee;
      names = last.names ∙ writes'.names ∙ names';
      slots = last.slots ∙ writes'.slots ∙ ap (λ (e : Emitted). e.slots) same';
      ret = last.ret ∙ writes'.ret ∙ ret';
      depth_is = deepest ∙ ap (λ k. max k (max d2 d3)) f1 ∙ ap (λ k. max (test.depth old.names) (max k d3)) inner_depth ∙ ap (λ k. max (test.depth old.names) (max inner.depth k)) else_depth;
    }

pub writes_turn : (test : Compiled) (step : Statement) (body : List Statement) (old inside middle middle' new : Writer) (c1 c2 c6 : List Instr)
    (start n ends outer d1 d2 d3 depth : ℕ)
    → start ≡ length old.code.items
    → c1 ≡ old.code.items ++ test.code old.names (length old.code.items) → d1 ≡ test.depth old.names
    → n ≡ length c1 → c2 ≡ c1 ++ Zero 0 ∷ [] → inside.code.items ≡ c2 ++ Turn ∷ [] → Keeps old inside
    → Writes (block_emitted (map emitting_of body)) inside middle d2
    → Writes (emitting_of step) middle middle' d3
    → c6 ≡ middle'.code.items ++ Jump start ∷ [] → ends ≡ length c6
    → outer ≡ length old.names.scope
    → new.code.items ≡ slice_set c6 n (Zero ends)
    → new.names ≡ record { functions = middle'.names.functions; scope = drop (length middle'.names.scope - outer) middle'.names.scope }
    → new.slots.items ≡ middle'.slots.items → new.ret ≡ middle'.ret
    → depth ≡ max d1 (max d2 d3)
    → Writes (loop_emitted test (block_emitted (map emitting_of body)) (emitting_of step)) old new depth
writes_turn test step body old inside middle middle' new c1 c2 c6 start n ends outer d1 d2 d3 depth es e1 f1 en e2 e3 keeps writes writes' e6 ee outer_is filled names slots ret deepest =
    let base : List Instr = old.code.items in
    let first : List Instr = test.code old.names (length base) in
    let block : Emitting = block_emitted (map emitting_of body) in
    let at : ℕ = length base + length first + 2 in
    let standing : Standing = record { at = at; scope = old.names.scope; slots = old.slots.items } in
    let inner : Emitted = block (within_of old) standing in
    let length_inside : length inside.code.items ≡ at =
    omega (arith, ap length e1, length-append base first, ap length e2, length-append c1 (Zero 0 ∷ []), ap length e3, length-append c2 (Turn ∷ [])) in
    let same : block (within_of inside) (standing_of inside) ≡ inner =
    emitted_as block (within_of inside) (within_of old) (standing_of inside) standing (kept_within old inside keeps)
    (kept_standing old inside at keeps length_inside) in
    let e4 : middle.code.items ≡ inside.code.items ++ inner.code = writes.code ∙ ap (λ (e : Emitted). inside.code.items ++ e.code) same in
    let at' : ℕ = length base + length first + 2 + length inner.code in
    let standing' : Standing = record { at = at'; scope = old.names.scope; slots = inner.slots } in
    let last : Emitted = emitting_of step (within_of old) standing' in
    let names' : middle.names ≡ old.names = writes.names ∙ keeps.names in
    let same' : emitting_of step (within_of middle) (standing_of middle) ≡ last =
    emitted_as (emitting_of step) (within_of middle) (within_of old) (standing_of middle) standing'
    (within_as old middle (ap (λ (around : Around). around.functions) names') (writes.ret ∙ keeps.ret))
    (standing_as middle at' old.names.scope inner.slots
    (omega (arith, ap length e4, length-append inside.code.items inner.code, length_inside))
    (ap (λ (around : Around). around.scope) names') (writes.slots ∙ ap (λ (e : Emitted). e.slots) same)) in
    let functions : middle'.names.functions ≡ old.names.functions =
    ap (λ (around : Around). around.functions) writes'.names ∙ ap (λ (around : Around). around.functions) names' in
    let scope : middle'.names.scope ≡ last.scope = ap (λ (around : Around). around.scope) writes'.names ∙ ap (λ (e : Emitted). e.scope) same' in
    let back : drop (length middle'.names.scope - outer) middle'.names.scope ≡ old.names.scope =
    ap (λ (s : List (List ℕ × Slot)). drop (length s - outer) s) scope
    ∙ left_again old.names.scope last.scope outer (statement_extends step (within_of old) standing') outer_is in
    let P : List (List ℕ × Known) → Around = λ f. record { functions = f; scope = drop (length middle'.names.scope - outer) middle'.names.scope } in
    let Q : List (List ℕ × Slot) → Around = λ s. record { functions = old.names.functions; scope = s } in
    let inner_depth : d2 ≡ inner.depth = writes.depth_is ∙ ap (λ (e : Emitted). e.depth) same in
    let last_depth : d3 ≡ last.depth = writes'.depth_is ∙ ap (λ (e : Emitted). e.depth) same' in
    record {
      code = filled ∙ loop_filled base first inner.code last.code c1 c2 inside.code.items middle.code.items middle'.code.items c6 start n ends
          es e1 en e2 e3 e4 (writes'.code ∙ ap (λ (e : Emitted). middle.code.items ++ e.code) same') e6 ee;
      names = names ∙ ap P functions ∙ ap Q back;
      slots = slots ∙ writes'.slots ∙ ap (λ (e : Emitted). e.slots) same';
      ret = ret ∙ writes'.ret ∙ writes.ret ∙ keeps.ret;
      depth_is = deepest ∙ ap (λ k. max k (max d2 d3)) f1 ∙ ap (λ k. max (test.depth old.names) (max k d3)) inner_depth ∙ ap (λ k. max (test.depth old.names) (max inner.depth k)) last_depth;
    }

pub writes_turns : (first step : Statement) (test : Compiled) (body : List Statement) (old middle middle' new : Writer) (outer d1 d2 depth : ℕ)
    → Writes (emitting_of first) old middle d1
    → Writes (loop_emitted test (block_emitted (map emitting_of body)) (emitting_of step)) middle middle' d2
    → outer ≡ length old.names.scope
    → new.code.items ≡ middle'.code.items
    → new.names ≡ record { functions = middle'.names.functions; scope = drop (length middle'.names.scope - outer) middle'.names.scope }
    → new.slots.items ≡ middle'.slots.items → new.ret ≡ middle'.ret
    → depth ≡ max d1 d2
    → Writes (turns_emitted (emitting_of first) test (emitting_of step) (map emitting_of body)) old new depth
writes_turns first step test body old middle middle' new outer d1 d2 depth writes writes' outer_is code names slots ret deepest =
    let one : Emitted = emitting_of first (within_of old) (standing_of old) in
    let loop : Emitting = loop_emitted test (block_emitted (map emitting_of body)) (emitting_of step) in
    let other : Emitted = loop (within_of old) (behind (standing_of old) one) in
    let same : loop (within_of middle) (standing_of middle) ≡ other =
    emitted_as loop (within_of middle) (within_of old) (standing_of middle) (behind (standing_of old) one)
    (writes_within (emitting_of first) old middle d1 writes) (writes_standing (emitting_of first) old middle d1 writes) in
    let functions : middle'.names.functions ≡ old.names.functions =
    ap (λ (around : Around). around.functions) writes'.names ∙ ap (λ (around : Around). around.functions) writes.names in
    let scope : middle'.names.scope ≡ one.scope =
    ap (λ (around : Around). around.scope) writes'.names ∙ ap (λ (around : Around). around.scope) writes.names in
    let back : drop (length middle'.names.scope - outer) middle'.names.scope ≡ old.names.scope =
    ap (λ (s : List (List ℕ × Slot)). drop (length s - outer) s) scope
    ∙ left_again old.names.scope one.scope outer (statement_extends first (within_of old) (standing_of old)) outer_is in
    let P : List (List ℕ × Known) → Around = λ f. record { functions = f; scope = drop (length middle'.names.scope - outer) middle'.names.scope } in
    let Q : List (List ℕ × Slot) → Around = λ s. record { functions = old.names.functions; scope = s } in
    record {
      code = code ∙ writes'.code ∙ ap (λ (e : Emitted). middle.code.items ++ e.code) same ∙ ap (λ l. l ++ other.code) writes.code
          ∙ append_assoc old.code.items one.code other.code;
      names = names ∙ ap P functions ∙ ap Q back;
      slots = slots ∙ writes'.slots ∙ ap (λ (e : Emitted). e.slots) same;
      ret = ret ∙ writes'.ret ∙ writes.ret;
      depth_is = deepest ∙ ap (λ k. max k d2) writes.depth_is ∙ ap (λ k. max one.depth k) (writes'.depth_is ∙ ap (λ (e : Emitted). e.depth) same);
    }
