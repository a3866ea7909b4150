-- Statements of main are written one after another.
use Rattle.std.proofs.Common.{◌≡◌, ◌<◌, ◌≤◌, ℕ, suc, ◌+◌, ◌-◌, max, get_or, List, [], ◌∷◌, ◌++◌, length, map, take, drop, refl, sym, ap, ◌∙◌, subst, arith, append_assoc, append-nil, length-append}
use Rattle.std.proofs.lemmas.List.{drop_all}
use Rattle.sk_base.specs.declared.number.Ty.{Ty}
use Rattle.sk_emitter.proofs.Lists.{left_cons}
use Rattle.sk_isa.specs.declared.code.Instr.{Instr}
use Rattle.sk_isa.specs.declared.code.Instr.TheVariants as instr
use Rattle.sk_main_scheme.specs.MainScheme.{Named, Number, Whole, Called, Around, Emitting, Emitted, Standing, only_code, then_emitted, all_emitted, counted, taking, declaring, holding, instancing, made_of, no_code, block_emitted, dropped}
use Rattle.sk_main_emitter.specs.declared.writer.Writer.{Writer}
use Rattle.sk_main_emitter.specs.Written.{Writes, standing_of, counting}
use Rattle.sk_main_emitter.proofs.MainDeclared.{Extends, left_again}
use Rattle.sk_scheme.specs.Pieces.{Placed}
use Rattle.sk_scheme.specs.Scheme.{Known}
use Rattle.sk_tree.specs.declared.declared.Declared.{Declared}
use Rattle.sk_tree.specs.declared.tree.Instance as tree

-- a writer with the same names, slots, containers and instances
pub record Keeps (old new : Writer) : Type 0 where
  pub names : new.names ≡ old.names
  pub slots : new.slots.items ≡ old.slots.items
  pub containers : new.containers ≡ old.containers
  pub instances : new.instances.items ≡ old.instances.items

abbrev pub instances_of : Writer → List tree.Instance
instances_of writer = map (λ instance. instance.now) writer.instances.items

-- where the next statement begins, by its parts
pub standing_as : (new : Writer) (at : ℕ) (scope : List (List ℕ × Named)) (slots : List Ty) (containers : List Declared) (instances : List tree.Instance)
    → length new.code.items ≡ at → new.names.scope ≡ scope → new.slots.items ≡ slots → new.containers ≡ containers → instances_of new ≡ instances
    → standing_of new ≡ record { at = at; scope = scope; slots = slots; containers = containers; instances = instances }
standing_as new at scope slots containers instances e1 e2 e3 e4 e5 =
    let one : ℕ → Standing = λ n. record { at = n; scope = new.names.scope; slots = new.slots.items; containers = new.containers; instances = instances_of new } in
    let two : List (List ℕ × Named) → Standing = λ s. record { at = at; scope = s; slots = new.slots.items; containers = new.containers; instances = instances_of new } in
    let three : List Ty → Standing = λ s. record { at = at; scope = scope; slots = s; containers = new.containers; instances = instances_of new } in
    let four : List Declared → Standing = λ s. record { at = at; scope = scope; slots = slots; containers = s; instances = instances_of new } in
    let five : List tree.Instance → Standing = λ s. record { at = at; scope = scope; slots = slots; containers = containers; instances = s } in
    ap one e1 ∙ ap two e2 ∙ ap three e3 ∙ ap four e4 ∙ ap five e5

-- where the next statement begins behind more code
pub kept_standing : (old new : Writer) (at : ℕ) → Keeps old new → length new.code.items ≡ at
    → standing_of new ≡ record (standing_of old) { at = at }
kept_standing old new at keeps at_is =
    standing_as new at old.names.scope old.slots.items old.containers (instances_of old) at_is
    (ap (λ (around : Around). around.scope) keeps.names) keeps.slots keeps.containers (ap (map (λ instance. instance.now)) keeps.instances)

pub kept_functions : (old new : Writer) → Keeps old new → new.names.functions ≡ old.names.functions
kept_functions old new keeps = ap (λ (around : Around). around.functions) keeps.names

-- what an emitting leaves where it begins as another
pub emitted_as : (x : Emitting) (f g : List (List ℕ × Known)) (s t : Standing) → f ≡ g → s ≡ t → x f s ≡ x g t
emitted_as x f g s t functions standing =
    ap (λ (k : List (List ℕ × Known)). x k s) functions ∙ ap (λ (k : Standing). x g k) standing

-- code alone is written
pub writes_code : (x : Emitting) (old new : Writer) (code : List Instr) (d depth : ℕ)
    → x old.names.functions (standing_of old) ≡ only_code code d (standing_of old)
    → new.code.items ≡ old.code.items ++ code → Keeps old new → depth ≡ d → Writes x old new depth
writes_code x old new code d depth is appended keeps depth_is = record {
  code = appended ∙ ap (λ (e : Emitted). old.code.items ++ e.code) (sym is);
  functions = kept_functions old new keeps;
  behind = kept_standing old new (length old.code.items + length code) keeps (ap length appended ∙ length-append old.code.items code)
      ∙ ap (λ (e : Emitted). e.behind) (sym is);
  depth_is = depth_is ∙ ap (λ (e : Emitted). e.depth) (sym is);
}

-- code behind code is written
pub writes_then : (x y : Emitting) (old middle new : Writer) (d e depth : ℕ)
    → Writes x old middle d → Writes y middle new e → depth ≡ max d e → Writes (then_emitted x y) old new depth
writes_then x y old middle new d e depth first second deepest =
    let one : Emitted = x old.names.functions (standing_of old) in
    let other : Emitted = y old.names.functions one.behind in
    let same : y middle.names.functions (standing_of middle) ≡ other =
    emitted_as y middle.names.functions old.names.functions (standing_of middle) one.behind first.functions first.behind in
    record {
      code = second.code ∙ ap (λ (k : Emitted). middle.code.items ++ k.code) same ∙ ap (λ l. l ++ other.code) first.code
          ∙ append_assoc old.code.items one.code other.code;
      functions = second.functions ∙ first.functions;
      behind = second.behind ∙ ap (λ (k : Emitted). k.behind) same;
      depth_is = deepest ∙ ap (λ k. max k e) first.depth_is ∙ ap (λ k. max one.depth k) (second.depth_is ∙ ap (λ (k : Emitted). k.depth) same);
    }

-- nothing is written
pub writes_nothing : (now : Writer) → Writes no_code now now 0
writes_nothing now =
    writes_code no_code now now [] 0 0 refl (sym (append-nil now.code.items))
    (record { names = refl; slots = refl; containers = refl; instances = refl }) refl

-- a statement's line, values and what takes them are written
pub writes_counted : (line : ℕ) (f : Around → Placed) (g : Around → ℕ) (last : Around → Standing → List Instr) (old new : Writer)
    (c1 c2 tail : List Instr) (depth : ℕ)
    → c1 ≡ old.code.items ++ instr.Count line ∷ [] → c2 ≡ c1 ++ f old.names (length c1) → new.code.items ≡ c2 ++ tail
    → tail ≡ last old.names (record (standing_of old) { at = length old.code.items + 1 })
    → Keeps old new → depth ≡ g old.names → Writes (counted line (taking f g last)) old new depth
writes_counted line f g last old new c1 c2 tail depth e1 e2 e3 taken keeps depth_is =
    let base : List Instr = old.code.items in
    let at : ℕ = length base + 1 in
    let values : List Instr = f old.names at in
    let rest : List Instr = last old.names (record (standing_of old) { at = at }) in
    let l1 : length c1 ≡ at = ap length e1 ∙ length-append base (instr.Count line ∷ []) in
    let whole : new.code.items ≡ base ++ instr.Count line ∷ (values ++ rest) =
    e3 ∙ ap (λ l. l ++ tail) (e2 ∙ ap (λ n. c1 ++ f old.names n) l1) ∙ ap (λ t. (c1 ++ values) ++ t) taken
    ∙ append_assoc c1 values rest ∙ ap (λ l. l ++ (values ++ rest)) e1 ∙ append_assoc base (instr.Count line ∷ []) (values ++ rest) in
    record {
      code = whole;
      functions = kept_functions old new keeps;
      behind = kept_standing old new (at + length (values ++ rest)) keeps
          (omega (arith, ap length whole, length-append base (instr.Count line ∷ (values ++ rest))));
      depth_is = omega (arith, depth_is);
    }

-- a statement's line, and values with what takes them, are written
pub writes_given : (line : ℕ) (f : Around → Placed) (g : Around → ℕ) (last : Around → Standing → List Instr) (old new : Writer)
    (c1 : List Instr) (depth : ℕ)
    → c1 ≡ old.code.items ++ instr.Count line ∷ []
    → new.code.items ≡ c1 ++ (f old.names (length c1) ++ last old.names (record (standing_of old) { at = length old.code.items + 1 }))
    → Keeps old new → depth ≡ g old.names → Writes (counted line (taking f g last)) old new depth
writes_given line f g last old new c1 depth e1 e2 keeps depth_is =
    let tail : List Instr = last old.names (record (standing_of old) { at = length old.code.items + 1 }) in
    writes_counted line f g last old new c1 (c1 ++ f old.names (length c1)) tail depth e1 refl
    (e2 ∙ sym (append_assoc c1 (f old.names (length c1)) tail)) refl keeps depth_is

-- a line is written
pub writes_line : (line : ℕ) (old new : Writer) → new.code.items ≡ old.code.items ++ instr.Count line ∷ [] → Keeps old new
    → Writes (counting line) old new 0
writes_line line old new appended keeps = writes_code (counting line) old new (instr.Count line ∷ []) 0 0 refl appended keeps refl

-- a line alone is written
pub writes_line_alone : (line : ℕ) (old new : Writer) → new.code.items ≡ old.code.items ++ instr.Count line ∷ [] → Keeps old new
    → Writes (counted line no_code) old new 0
writes_line_alone line old new appended keeps =
    writes_then (counting line) no_code old new new 0 0 0 (writes_line line old new appended keeps) (writes_nothing new) refl

-- a scalar comes into scope behind what is written
pub writes_declaring : (name : List ℕ) (ty : Ty) (x : Emitting) (old middle new : Writer) (depth : ℕ)
    → Writes x old middle depth → new.code.items ≡ middle.code.items
    → new.names ≡ record { functions = middle.names.functions; scope = (name, Number (length middle.slots.items) ty) ∷ middle.names.scope }
    → new.slots.items ≡ middle.slots.items ++ ty ∷ [] → new.containers ≡ middle.containers → new.instances.items ≡ middle.instances.items
    → Writes (declaring name ty x) old new depth
writes_declaring name ty x old middle new depth writes code names slots containers instances =
    let declared : Standing → Standing = λ s. record s { scope = (name, Number (length s.slots) ty) ∷ s.scope; slots = s.slots ++ ty ∷ [] } in
    record {
      code = code ∙ writes.code;
      functions = ap (λ (around : Around). around.functions) names ∙ writes.functions;
      behind = standing_as new (length middle.code.items) ((name, Number (length middle.slots.items) ty) ∷ middle.names.scope)
          (middle.slots.items ++ ty ∷ []) middle.containers (instances_of middle)
          (ap length code) (ap (λ (around : Around). around.scope) names) slots containers (ap (map (λ instance. instance.now)) instances)
          ∙ ap declared writes.behind;
      depth_is = writes.depth_is;
    }

-- a container comes into scope behind what is written
pub writes_holding : (name : List ℕ) (kind : ℕ) (ty : Ty) (x : Emitting) (old middle new : Writer) (depth : ℕ)
    → Writes x old middle depth → new.code.items ≡ middle.code.items
    → new.names ≡ record { functions = middle.names.functions; scope = (name, Whole (length middle.containers) ty) ∷ middle.names.scope }
    → new.slots.items ≡ middle.slots.items
    → new.containers ≡ middle.containers ++ record { name = name; kind = kind; ty = ty } ∷ []
    → new.instances.items ≡ middle.instances.items
    → Writes (holding name kind ty x) old new depth
writes_holding name kind ty x old middle new depth writes code names slots containers instances =
    let held : Standing → Standing = λ s. record s {
      scope = (name, Whole (length s.containers) ty) ∷ s.scope;
      containers = s.containers ++ record { name = name; kind = kind; ty = ty } ∷ [];
    } in
    record {
      code = code ∙ writes.code;
      functions = ap (λ (around : Around). around.functions) names ∙ writes.functions;
      behind = standing_as new (length middle.code.items) ((name, Whole (length middle.containers) ty) ∷ middle.names.scope)
          middle.slots.items (middle.containers ++ record { name = name; kind = kind; ty = ty } ∷ []) (instances_of middle)
          (ap length code) (ap (λ (around : Around). around.scope) names) slots containers (ap (map (λ instance. instance.now)) instances)
          ∙ ap held writes.behind;
      depth_is = writes.depth_is;
    }

-- an instance comes into scope behind what is written
pub writes_instancing : (instance : tree.Instance) (x : Emitting) (old middle new : Writer) (depth : ℕ)
    → Writes x old middle depth → new.code.items ≡ middle.code.items
    → new.names ≡ record {
      functions = middle.names.functions;
      scope = (instance.name, Called (made_of old.names.functions (length (instances_of middle)) instance)) ∷ middle.names.scope;
    }
    → new.slots.items ≡ middle.slots.items → new.containers ≡ middle.containers
    → instances_of new ≡ instances_of middle ++ instance ∷ []
    → Writes (instancing instance x) old new depth
writes_instancing instance x old middle new depth writes code names slots containers instances =
    let made : Standing → Standing = λ s. record s {
      scope = (instance.name, Called (made_of old.names.functions (length s.instances) instance)) ∷ s.scope;
      instances = s.instances ++ instance ∷ [];
    } in
    record {
      code = code ∙ writes.code;
      functions = ap (λ (around : Around). around.functions) names ∙ writes.functions;
      behind = standing_as new (length middle.code.items)
          ((instance.name, Called (made_of old.names.functions (length (instances_of middle)) instance)) ∷ middle.names.scope)
          middle.slots.items middle.containers (instances_of middle ++ instance ∷ [])
          (ap length code) (ap (λ (around : Around). around.scope) names) slots containers instances
          ∙ ap made writes.behind;
      depth_is = writes.depth_is;
    }

-- What is written so far leads to the whole, once what is left is written.
pub record Continues (whole left : List Emitting) (first now : Writer) (depth : ℕ) : Type 0 where
  pub goes : (new : Writer) (own all : ℕ) → Writes (all_emitted left) now new own → all ≡ max depth own → Writes (all_emitted whole) first new all

pub continues_first : (whole : List Emitting) (first : Writer) → Continues whole whole first first 0
continues_first whole first = record {
  goes = λ new own all writes deepest. subst (λ n. Writes (all_emitted whole) first new n) (omega (arith, deepest)) writes;
}

pub continues_more : (whole left : List Emitting) (x : Emitting) (first now next : Writer) (depth own deeper : ℕ)
    → Continues whole (x ∷ left) first now depth → Writes x now next own → deeper ≡ max depth own
    → Continues whole left first next deeper
continues_more whole left x first now next depth own deeper continues writes deepest = record {
  goes = λ new rest all later is.
      continues.goes new (max own rest) all (writes_then x (all_emitted left) now next new own rest (max own rest) writes later refl)
      (omega (arith, deepest, is));
}

pub continues_end : (whole : List Emitting) (first now : Writer) (depth : ℕ)
    → Continues whole [] first now depth → Writes (all_emitted whole) first now depth
continues_end whole first now depth continues = continues.goes now 0 depth (writes_nothing now) (omega arith)

-- a block: its statements, the end of its containers, and as many names are left as before
pub writes_block : (xs : List Emitting) (old middle ended new : Writer) (outer depth : ℕ)
    → outer ≡ length old.names.scope
    → Writes (all_emitted xs) old middle depth
    → Extends old.names.scope (all_emitted xs old.names.functions (standing_of old)).behind.scope
    → ended.code.items ≡ middle.code.items ++ dropped (take (length middle.names.scope - outer) middle.names.scope) → Keeps middle ended
    → new.code.items ≡ ended.code.items
    → new.names ≡ record { functions = ended.names.functions; scope = drop (length ended.names.scope - outer) ended.names.scope }
    → new.slots.items ≡ ended.slots.items → new.containers ≡ ended.containers → new.instances.items ≡ ended.instances.items
    → Writes (block_emitted xs) old new depth
writes_block xs old middle ended new outer depth outer_is writes extends drops keeps code names slots containers instances =
    let inner : Emitted = all_emitted xs old.names.functions (standing_of old) in
    let scope : middle.names.scope ≡ inner.behind.scope = ap (λ (s : Standing). s.scope) writes.behind in
    let ends : List Instr = dropped (take (length inner.behind.scope - length old.names.scope) inner.behind.scope) in
    let ends_are : dropped (take (length middle.names.scope - outer) middle.names.scope) ≡ ends =
    ap (λ (s : List (List ℕ × Named)). dropped (take (length s - outer) s)) scope
    ∙ ap (λ n. dropped (take (length inner.behind.scope - n) inner.behind.scope)) outer_is in
    let back : drop (length ended.names.scope - outer) ended.names.scope ≡ old.names.scope =
    ap (λ (s : List (List ℕ × Named)). drop (length s - outer) s) (ap (λ (around : Around). around.scope) keeps.names ∙ scope)
    ∙ left_again old.names.scope inner.behind.scope outer extends outer_is in
    let at : length middle.code.items ≡ inner.behind.at = ap (λ (s : Standing). s.at) writes.behind in
    let whole : new.code.items ≡ middle.code.items ++ ends = code ∙ drops ∙ ap (λ l. middle.code.items ++ l) ends_are in
    record {
      code = whole ∙ ap (λ l. l ++ ends) writes.code ∙ append_assoc old.code.items inner.code ends;
      functions = ap (λ (around : Around). around.functions) names ∙ kept_functions middle ended keeps ∙ writes.functions;
      behind = standing_as new (inner.behind.at + length ends) old.names.scope inner.behind.slots inner.behind.containers inner.behind.instances
          (ap length whole ∙ length-append middle.code.items ends ∙ ap (λ n. n + length ends) at)
          (ap (λ (around : Around). around.scope) names ∙ back)
          (slots ∙ keeps.slots ∙ ap (λ (s : Standing). s.slots) writes.behind)
          (containers ∙ keeps.containers ∙ ap (λ (s : Standing). s.containers) writes.behind)
          (ap (map (λ instance. instance.now)) (instances ∙ keeps.instances) ∙ ap (λ (s : Standing). s.instances) writes.behind);
      depth_is = writes.depth_is;
    }

-- one more of a list is written
pub written_turn : {X : Type 0} (f : X → Emitting) (xs : List X) (first now next : Writer) (i depth own deeper : ℕ) (x : X)
    → Continues (map f xs) (map f (drop i xs)) first now depth → x ≡ get_or xs i x → i < length xs
    → Writes (f x) now next own → deeper ≡ max depth own
    → Continues (map f xs) (map f (drop (i + 1) xs)) first next deeper
written_turn {X} f xs first now next i depth own deeper x continues is below writes deepest =
    continues_more (map f xs) (map f (drop (i + 1) xs)) (f x) first now next depth own deeper
    (subst (λ (left : List X). Continues (map f xs) (map f left) first now depth) (left_cons xs i x below is) continues) writes deepest

-- all of a list are written
pub written_end : {X : Type 0} (f : X → Emitting) (xs : List X) (first now : Writer) (i depth : ℕ)
    → Continues (map f xs) (map f (drop i xs)) first now depth → length xs ≤ i → Writes (all_emitted (map f xs)) first now depth
written_end {X} f xs first now i depth continues over =
    continues_end (map f xs) first now depth
    (subst (λ (left : List X). Continues (map f xs) (map f left) first now depth) (drop_all i xs over) continues)
