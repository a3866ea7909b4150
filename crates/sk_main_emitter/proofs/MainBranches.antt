-- Statements of main with blocks are written.
use Rattle.std.proofs.Common.{◌≡◌, ℕ, ◌+◌, ◌-◌, max, List, [], ◌∷◌, ◌++◌, length, drop, map, refl, sym, ap, ◌∙◌, arith, append_assoc, length-append}
use Rattle.std.proofs.lemmas.List.{length-set}
use Rattle.std.specs.Prelude.{slice_set}
use Rattle.sk_emitter.proofs.Filled.{if_filled, choice_filled}
use Rattle.sk_isa.specs.declared.code.Instr.{Instr}
use Rattle.sk_isa.specs.declared.code.Instr.TheVariants.{Zero, Jump, Count}
use Rattle.sk_main_scheme.specs.MainScheme.{Named, Around, Emitting, Emitted, Standing, then_emitted, block_emitted, if_emitted, loop_emitted, for_emitted, placed_behind}
use Rattle.sk_main_emitter.specs.declared.writer.Writer.{Writer}
use Rattle.sk_main_emitter.specs.Statements.{choice_emitted}
use Rattle.sk_main_emitter.specs.Written.{Writes, standing_of}
use Rattle.sk_main_emitter.proofs.MainDeclared.{Extends, left_again}
use Rattle.sk_main_emitter.proofs.MainWriters.{Keeps, kept_standing, kept_functions, standing_as, instances_of, emitted_as, writes_then}
use Rattle.sk_scheme.specs.Pieces.{Piece}

-- what an emitting leaves so many addresses behind a writer
inside_as : (x : Emitting) (old inside : Writer) (more : ℕ) → Keeps old inside → length inside.code.items ≡ length old.code.items + more
    → x inside.names.functions (standing_of inside) ≡ x old.names.functions (placed_behind (standing_of old) more)
inside_as x old inside more keeps at =
    emitted_as x inside.names.functions old.names.functions (standing_of inside) (placed_behind (standing_of old) more)
    (kept_functions old inside keeps) (kept_standing old inside (length old.code.items + more) keeps at)

pub writes_only : (test : Piece Around) (one : List Emitting) (old inside middle new : Writer) (c1 : List Instr) (n ends d1 d2 depth : ℕ)
    → c1 ≡ old.code.items ++ test.code old.names (length old.code.items) → d1 ≡ test.depth old.names
    → n ≡ length c1 → inside.code.items ≡ c1 ++ Zero 0 ∷ [] → Keeps old inside
    → Writes (block_emitted one) inside middle d2
    → ends ≡ length middle.code.items → new.code.items ≡ slice_set middle.code.items n (Zero ends) → Keeps middle new
    → depth ≡ max d1 d2
    → Writes (if_emitted test one []) old new depth
writes_only test one old inside middle new c1 n ends d1 d2 depth e1 f1 en e2 keeps writes ee filled last deepest =
    let base : List Instr = old.code.items in
    let first : List Instr = test.code old.names (length base) in
    let inner : Emitted = block_emitted one old.names.functions (placed_behind (standing_of old) (length first + 1)) in
    let at : length inside.code.items ≡ length base + (length first + 1) =
    omega (arith, ap length e1, length-append base first, ap length e2, length-append c1 (Zero 0 ∷ [])) in
    let same : block_emitted one inside.names.functions (standing_of inside) ≡ inner =
    inside_as (block_emitted one) old inside (length first + 1) keeps at in
    let behind : standing_of middle ≡ inner.behind = writes.behind ∙ ap (λ (e : Emitted). e.behind) same in
    let appended : middle.code.items ≡ inside.code.items ++ inner.code = writes.code ∙ ap (λ (e : Emitted). inside.code.items ++ e.code) same in
    let reached : length middle.code.items ≡ inner.behind.at = ap (λ (s : Standing). s.at) behind in
    let placed : length base + length first + 1 + length inner.code ≡ inner.behind.at =
    omega (arith, reached, at, ap length appended, length-append inside.code.items inner.code) in
    let whole : new.code.items ≡ base ++ (first ++ Zero inner.behind.at ∷ inner.code) =
    filled ∙ if_filled base first inner.code c1 inside.code.items middle.code.items n ends e1 en e2 appended ee
    ∙ ap (λ k. base ++ (first ++ Zero k ∷ inner.code)) placed in
    let same_length : length new.code.items ≡ length middle.code.items = ap length filled ∙ length-set middle.code.items n (Zero ends) in
    record {
      code = whole;
      functions = kept_functions middle new last ∙ writes.functions ∙ kept_functions old inside keeps;
      behind = kept_standing middle new (length middle.code.items) last same_length ∙ behind;
      depth_is = deepest ∙ ap (λ k. max k d2) f1 ∙ ap (λ k. max (test.depth old.names) k) (writes.depth_is ∙ ap (λ (e : Emitted). e.depth) same);
    }

pub writes_choice : (test : Piece Around) (one other : List Emitting) (old inside middle inside' middle' new : Writer) (c1 : List Instr)
    (n m third ends d1 d2 d3 depth : ℕ)
    → c1 ≡ old.code.items ++ test.code old.names (length old.code.items) → d1 ≡ test.depth old.names
    → n ≡ length c1 → inside.code.items ≡ c1 ++ Zero 0 ∷ [] → Keeps old inside
    → Writes (block_emitted one) inside middle d2
    → m ≡ length middle.code.items → inside'.code.items ≡ middle.code.items ++ Zero 0 ∷ [] → Keeps middle inside'
    → third ≡ length inside'.code.items
    → Writes (block_emitted other) inside' middle' d3
    → ends ≡ length middle'.code.items
    → new.code.items ≡ slice_set (slice_set middle'.code.items n (Zero third)) m (Jump ends) → Keeps middle' new
    → depth ≡ max d1 (max d2 d3)
    → Writes (choice_emitted test one other) old new depth
writes_choice test one other old inside middle inside' middle' new c1 n m third ends d1 d2 d3 depth e1 f1 en e2 keeps writes em e4 keeps' et writes' ee filled last deepest =
    let base : List Instr = old.code.items in
    let first : List Instr = test.code old.names (length base) in
    let inner : Emitted = block_emitted one old.names.functions (placed_behind (standing_of old) (length first + 1)) in
    let at : length inside.code.items ≡ length base + (length first + 1) =
    omega (arith, ap length e1, length-append base first, ap length e2, length-append c1 (Zero 0 ∷ [])) in
    let same : block_emitted one inside.names.functions (standing_of inside) ≡ inner =
    inside_as (block_emitted one) old inside (length first + 1) keeps at in
    let behind : standing_of middle ≡ inner.behind = writes.behind ∙ ap (λ (e : Emitted). e.behind) same in
    let final : Emitted = block_emitted other old.names.functions (placed_behind inner.behind 1) in
    let at' : length inside'.code.items ≡ length middle.code.items + 1 = ap length e4 ∙ length-append middle.code.items (Zero 0 ∷ []) in
    let same' : block_emitted other inside'.names.functions (standing_of inside') ≡ final =
    emitted_as (block_emitted other) inside'.names.functions old.names.functions (standing_of inside') (placed_behind inner.behind 1)
    (kept_functions middle inside' keeps' ∙ writes.functions ∙ kept_functions old inside keeps)
    (kept_standing middle inside' (length middle.code.items + 1) keeps' at' ∙ ap (λ (s : Standing). placed_behind s 1) behind) in
    let behind' : standing_of middle' ≡ final.behind = writes'.behind ∙ ap (λ (e : Emitted). e.behind) same' in
    let appended : middle.code.items ≡ inside.code.items ++ inner.code = writes.code ∙ ap (λ (e : Emitted). inside.code.items ++ e.code) same in
    let appended' : middle'.code.items ≡ inside'.code.items ++ final.code = writes'.code ∙ ap (λ (e : Emitted). inside'.code.items ++ e.code) same' in
    let reached : length middle.code.items ≡ inner.behind.at = ap (λ (s : Standing). s.at) behind in
    let reached' : length middle'.code.items ≡ final.behind.at = ap (λ (s : Standing). s.at) behind' in
    let placed : length base + length first + length inner.code + 2 ≡ inner.behind.at + 1 =
    omega (arith, reached, at, ap length appended, length-append inside.code.items inner.code) in
    let placed' : length base + length first + length inner.code + 2 + length final.code ≡ final.behind.at =
    omega (arith, placed, reached, reached', at', ap length appended', length-append inside'.code.items final.code) in
    let same_length : length new.code.items ≡ length middle'.code.items =
    ap length filled ∙ length-set (slice_set middle'.code.items n (Zero third)) m (Jump ends) ∙ length-set middle'.code.items n (Zero third) in
    record {
      code = filled
          ∙ choice_filled base first inner.code final.code c1 inside.code.items middle.code.items inside'.code.items middle'.code.items
          n m third ends e1 en e2 appended em e4 et appended' ee
          ∙ ap (λ k. base ++ ((first ++ Zero k ∷ inner.code) ++ Jump (length base + length first + length inner.code + 2 + length final.code) ∷ final.code)) placed
          ∙ ap (λ k. base ++ ((first ++ Zero (inner.behind.at + 1) ∷ inner.code) ++ Jump k ∷ final.code)) placed';
      functions = kept_functions middle' new last ∙ writes'.functions ∙ kept_functions middle inside' keeps' ∙ writes.functions ∙ kept_functions old inside keeps;
      behind = kept_standing middle' new (length middle'.code.items) last same_length ∙ behind';
      depth_is = deepest ∙ ap (λ k. max k (max d2 d3)) f1
          ∙ ap (λ k. max (test.depth old.names) (max k d3)) (writes.depth_is ∙ ap (λ (e : Emitted). e.depth) same)
          ∙ ap (λ k. max (test.depth old.names) (max inner.depth k)) (writes'.depth_is ∙ ap (λ (e : Emitted). e.depth) same');
    }

pub writes_turn : (line : ℕ) (test : Piece Around) (body step : Emitting) (old inside middle middle' new : Writer) (c1 c2 c6 : List Instr)
    (start n ends d1 d2 d3 depth : ℕ)
    → start ≡ length old.code.items
    → c1 ≡ old.code.items ++ Count line ∷ []
    → c2 ≡ c1 ++ test.code old.names (length c1) → d1 ≡ test.depth old.names
    → n ≡ length c2 → inside.code.items ≡ c2 ++ Zero 0 ∷ [] → Keeps old inside
    → Writes body inside middle d2 → Writes step middle middle' d3
    → c6 ≡ middle'.code.items ++ Jump start ∷ [] → ends ≡ length c6
    → new.code.items ≡ slice_set c6 n (Zero ends) → Keeps middle' new
    → depth ≡ max d1 (max d2 d3)
    → Writes (loop_emitted line test body step) old new depth
writes_turn line test body step old inside middle middle' new c1 c2 c6 start n ends d1 d2 d3 depth es e1 e2 f1 en e3 keeps writes writes' e6 ee filled last deepest =
    let base : List Instr = old.code.items in
    let l1 : length c1 ≡ length base + 1 = ap length e1 ∙ length-append base (Count line ∷ []) in
    let code : List Instr = test.code old.names (length base + 1) in
    let first : List Instr = Count line ∷ code in
    let e2' : c2 ≡ base ++ first =
    e2 ∙ ap (λ k. c1 ++ test.code old.names k) l1 ∙ ap (λ l. l ++ code) e1 ∙ append_assoc base (Count line ∷ []) code in
    let inner : Emitted = then_emitted body step old.names.functions (placed_behind (standing_of old) (length first + 1)) in
    let at : length inside.code.items ≡ length base + (length first + 1) =
    omega (arith, ap length e2', length-append base first, ap length e3, length-append c2 (Zero 0 ∷ [])) in
    let both : Writes (then_emitted body step) inside middle' (max d2 d3) =
    writes_then body step inside middle middle' d2 d3 (max d2 d3) writes writes' refl in
    let same : then_emitted body step inside.names.functions (standing_of inside) ≡ inner =
    inside_as (then_emitted body step) old inside (length first + 1) keeps at in
    let behind : standing_of middle' ≡ inner.behind = both.behind ∙ ap (λ (e : Emitted). e.behind) same in
    let l6 : length c6 ≡ length middle'.code.items + 1 = ap length e6 ∙ length-append middle'.code.items (Jump start ∷ []) in
    let reached : length middle'.code.items ≡ inner.behind.at = ap (λ (s : Standing). s.at) behind in
    let jump : List Instr = Jump start ∷ [] in
    let rest : c6 ≡ inside.code.items ++ (inner.code ++ jump) =
    e6 ∙ ap (λ l. l ++ jump) (both.code ∙ ap (λ (e : Emitted). inside.code.items ++ e.code) same) ∙ append_assoc inside.code.items inner.code jump in
    let placed : length base + length first + 1 + length (inner.code ++ jump) ≡ inner.behind.at + 1 =
    omega (arith, l6, reached, at, ap length rest, length-append inside.code.items (inner.code ++ jump)) in
    let to : ℕ = inner.behind.at + 1 in
    let regroup : first ++ Zero to ∷ (inner.code ++ jump) ≡ (first ++ Zero to ∷ inner.code) ++ jump = sym (append_assoc first (Zero to ∷ inner.code) jump) in
    let same_length : length new.code.items ≡ length middle'.code.items + 1 = ap length filled ∙ length-set c6 n (Zero ends) ∙ l6 in
    record {
      code = filled
          ∙ if_filled base first (inner.code ++ jump) c2 inside.code.items c6 n ends e2' en e3 rest ee
          ∙ ap (λ k. base ++ (first ++ Zero k ∷ (inner.code ++ jump))) placed
          ∙ ap (λ l. base ++ l) regroup
          ∙ ap (λ k. base ++ ((first ++ Zero to ∷ inner.code) ++ Jump k ∷ [])) es;
      functions = kept_functions middle' new last ∙ both.functions ∙ kept_functions old inside keeps;
      behind = kept_standing middle' new (length middle'.code.items + 1) last same_length ∙ ap (λ (s : Standing). placed_behind s 1) behind;
      depth_is = deepest ∙ ap (λ k. max k (max d2 d3)) f1
          ∙ ap (λ k. max (test.depth old.names) k) (both.depth_is ∙ ap (λ (e : Emitted). e.depth) same);
    }

pub writes_turns : (line : ℕ) (first : Emitting) (test : Piece Around) (step : Emitting) (body : List Emitting) (old middle middle' new : Writer)
    (outer d1 d2 depth : ℕ)
    → Writes first old middle d1
    → Writes (loop_emitted line test (block_emitted body) step) middle middle' d2
    → Extends old.names.scope
    (then_emitted first (loop_emitted line test (block_emitted body) step) old.names.functions (standing_of old)).behind.scope
    → outer ≡ length old.names.scope
    → new.code.items ≡ middle'.code.items
    → new.names ≡ record { functions = middle'.names.functions; scope = drop (length middle'.names.scope - outer) middle'.names.scope }
    → new.slots.items ≡ middle'.slots.items → new.containers ≡ middle'.containers → new.instances.items ≡ middle'.instances.items
    → depth ≡ max d1 d2
    → Writes (for_emitted line first test step body) old new depth
writes_turns line first test step body old middle middle' new outer d1 d2 depth writes writes' extends outer_is code names slots containers instances deepest =
    let loop : Emitting = loop_emitted line test (block_emitted body) step in
    let both : Writes (then_emitted first loop) old middle' depth = writes_then first loop old middle middle' d1 d2 depth writes writes' deepest in
    let whole : Emitted = then_emitted first loop old.names.functions (standing_of old) in
    let scope : middle'.names.scope ≡ whole.behind.scope = ap (λ (s : Standing). s.scope) both.behind in
    let back : drop (length middle'.names.scope - outer) middle'.names.scope ≡ old.names.scope =
    ap (λ (s : List (List ℕ × Named)). drop (length s - outer) s) scope ∙ left_again old.names.scope whole.behind.scope outer extends outer_is in
    record {
      code = code ∙ both.code;
      functions = ap (λ (around : Around). around.functions) names ∙ both.functions;
      behind = standing_as new whole.behind.at old.names.scope whole.behind.slots whole.behind.containers whole.behind.instances
          (ap length code ∙ ap (λ (s : Standing). s.at) both.behind)
          (ap (λ (around : Around). around.scope) names ∙ back)
          (slots ∙ ap (λ (s : Standing). s.slots) both.behind)
          (containers ∙ ap (λ (s : Standing). s.containers) both.behind)
          (ap (map (λ instance. instance.now)) instances ∙ ap (λ (s : Standing). s.instances) both.behind);
      depth_is = both.depth_is;
    }
