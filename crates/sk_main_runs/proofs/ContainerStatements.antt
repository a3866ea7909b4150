-- What the code of declarations of containers does, and that of writes of elements.
use Rattle.std.proofs.Common.{◌≡◌, ℕ, zero, suc, ◌+◌, ◌≤◌, List, [], ◌∷◌, ◌++◌, length, map, take, drop, reverse, ℤ, pos, Option, Some, None, refl, sym, ap, ◌∙◌, subst, arith, length-append}
use Rattle.std.proofs.Math.Seq.{take-append_seam, drop-append_seam}
use Rattle.std.proofs.lemmas.List.{take-append-drop, append-nil}
use Rattle.std.specs.Prelude.{Result, Ok, Err, true, false, Bool, ◌&&◌, ◌||◌, ◌==◌, slice_get, slice_index_or}
use Rattle.sk_base.specs.Arithmetic.{wrapped}
use Rattle.sk_base.specs.ArithmeticLaws.{wrapped-same}
use Rattle.sk_base.specs.declared.number.Ty.{Ty}
use Rattle.sk_isa.specs.Configurations.{Stuck, with_many}
use Rattle.sk_isa.specs.declared.code.Instr.{Instr}
use Rattle.sk_isa.specs.declared.code.Instr.TheVariants as instr
use Rattle.sk_isa.specs.declared.object.Object.{Object}
use Rattle.sk_main_code.specs.MainSteps.{MainNext, MainPoint, going_in, last_of, next_in_main}
use Rattle.sk_main_fits.specs.Fits.{fits, all_fit, is_whole}
use Rattle.sk_main_fits.specs.StatementFits.{Judged, Test, judge_step, behind_line}
use Rattle.sk_main_names.proofs.Tests.{IsPoked, fit_drop, fit_take, made_few, poked_parts, same_number}
use Rattle.sk_main_run.specs.MainNames.{Meant, State, main_names, number_in, all_evaluated, evaluated, in_state}
use Rattle.sk_main_run.specs.MainNames as tree
use Rattle.sk_main_run.specs.MainRun.{Running, Numbers, Numbered, and_run, in_world, declaring, fill_of, running_step}
use Rattle.sk_main_run.specs.MainRunLaws.{at_line}
use Rattle.sk_main_runs.proofs.Arguments.{GivesMany, many_found}
use Rattle.sk_main_runs.proofs.Containers.{make-converted, made_tidy, poked_so}
use Rattle.sk_main_runs.proofs.Flows.{Runs, runs_after, runs_counted, runs_in_world, runs_nothing, runs_values, runs_wanted, runs_world}
use Rattle.sk_main_runs.proofs.Names.{name_found}
use Rattle.sk_main_runs.proofs.Runs.{IsLike, like_same, like_on, stands, Finishes, Leads, leads_on, step, leads_same, Gives}
use Rattle.sk_main_runs.proofs.StatementNodes.{IsAt, Does, Follows, keeps_same, is_counted, counted_does, wanted_value}
use Rattle.sk_main_runs.proofs.Tidy.{tidy_like, zero-in_range}
use Rattle.sk_main_runs.proofs.Values.{at-seam, places_give, pushed-last, values-append, values_then}
use Rattle.sk_main_runs.specs.SameMeaning.{AreNamed}
use Rattle.sk_main_scheme.specs.MainScheme.{Around, Named, Number, Whole, Called, Standing, Emitting, around_at, main_piece, make_code, container_named, named_type, poke_code, taking}
use Rattle.sk_meaning.specs.Expressions.{meaning_of, values_of, then_do}
use Rattle.sk_names.specs.Bindings.{bound_to}
use Rattle.sk_plain.proofs.Lists.{slice_get-seam}
use Rattle.sk_plain.proofs.Truths.{and_left, and_right}
use Rattle.sk_safety.specs.Safety.{Judgements}
use Rattle.sk_scheme.specs.Pieces.{Placed, parts_depth, places_code, then_code, wanted_code}
use Rattle.sk_scheme.specs.Scheme.{Known}
use Rattle.sk_scheme_runs.proofs.Runs.{HasAt, has_front, has_back}
use Rattle.sk_tree.specs.declared.declared.Declared.{Declared}
use Rattle.sk_tree.specs.declared.tree.Expr.{Expr}
use Rattle.sk_tree.specs.declared.tree.What.TheOpen as what
use Rattle.sk_world.specs.World.{World, Over, make, poke}

take-whole : (vs us : List ℤ) (n : ℕ) → length vs ≡ n → take n (vs ++ us) ≡ vs
take-whole vs us n e = subst (λ k. take k (vs ++ us) ≡ vs) e (take-append_seam vs us)

drop-whole : (vs us : List ℤ) (n : ℕ) → length vs ≡ n → drop n (vs ++ us) ≡ us
drop-whole vs us n e = subst (λ k. drop k (vs ++ us) ≡ us) e (drop-append_seam vs us)

size_taken : (n : ℕ) (es : List Expr) → n ≤ length es → length (take n es) ≡ n
size_taken zero es le = refl
size_taken (suc n) [] le = absurd (omega (arith, le))
size_taken (suc n) (x ∷ es) le = ap suc (size_taken n es (omega (arith, le)))

size_left : (n : ℕ) (es : List Expr) → length es ≤ suc n → length (drop n es) ≤ 1
size_left zero es le = le
size_left (suc n) [] le = omega arith
size_left (suc n) (x ∷ es) le = size_left n es (omega (arith, le))

-- sizes, and at most one value behind them
few_arguments : (kind : ℕ) (es : List Expr) → (length es == kind || length es == suc kind) ≡ true → (length (take kind es) ≡ kind) × (length (drop kind es) ≤ 1)
few_arguments kind es e = by_test (length es == kind) (length es == suc kind) refl refl e
  where
    sized : (n : ℕ) → length es ≡ n → kind ≤ n → n ≤ suc kind → (length (take kind es) ≡ kind) × (length (drop kind es) ≤ 1)
    sized n e low high = (size_taken kind es (omega (arith, e, low)), size_left kind es (omega (arith, e, high)))

    by_test : (b c : Bool) → (length es == kind) ≡ b → (length es == suc kind) ≡ c → (b || c) ≡ true → (length (take kind es) ≡ kind) × (length (drop kind es) ≤ 1)
    by_test true c e f g = sized kind (same_number (length es) kind e) (omega arith) (omega arith)
    by_test false true e f g = sized (suc kind) (same_number (length es) (suc kind) f) (omega arith) (omega arith)
    by_test false false e f g = let no : ⊥ = cc in absurd no

module _ (object : Object) (functions : List (List ℕ × Known)) (judgements : Judgements) where
  abbrev IsFollowing : Numbered → Judged → Type 0
  IsFollowing = Follows object functions judgements

  -- sizes, and above them the fill value in its type
  abbrev IsMade : Ty → (kind : ℕ) → List ℤ → ℕ → World → ℕ → Result (List ℤ × World) Over → Type 0
  IsMade ty kind slots at world to (Ok done) =
      (length (take kind done.0) ≡ kind) × IsLike world done.1
      × Leads object (stands at [] slots world) (stands to (reverse (take kind done.0 ++ wrapped ty (fill_of (drop kind done.0)) ∷ []) ++ []) slots done.1)
  IsMade ty kind slots at world to (Err over) = Finishes object (stands at [] slots world) (Err over)

  made_end : (ty : Ty) (kind : ℕ) (slots : List ℤ) (at : ℕ) (world : World) (to : ℕ) (vs us : List ℤ) (w : World) (c : ℤ) → length vs ≡ kind → c ≡ wrapped ty (fill_of us) → IsLike world w
      → Leads object (stands at [] slots world) (stands to (c ∷ (reverse vs ++ [])) slots w) → IsMade ty kind slots at world to (Ok (vs ++ us, w))
  made_end ty kind slots at world to vs us w c n e like l =
      let t : take kind (vs ++ us) ≡ vs = take-whole vs us kind n in
      let d : drop kind (vs ++ us) ≡ us = drop-whole vs us kind n in
      let stack : c ∷ (reverse vs ++ []) ≡ reverse (take kind (vs ++ us) ++ wrapped ty (fill_of (drop kind (vs ++ us))) ∷ []) ++ [] =
      pushed-last vs [] c ∙ ap (λ (x : ℤ). reverse (vs ++ x ∷ []) ++ []) e
      ∙ sym (ap (λ (l : List ℤ). reverse (l ++ wrapped ty (fill_of us) ∷ []) ++ []) t)
      ∙ sym (ap (λ (l : List ℤ). reverse (take kind (vs ++ us) ++ wrapped ty (fill_of l) ∷ []) ++ []) d) in
      (ap length t ∙ n, like, subst (λ (s : List ℤ). Leads object (stands at [] slots world) (stands to s slots w)) stack l)

  abbrev make_code_of : Ty → (sizes filling : List Expr) → Around → Placed
  make_code_of ty sizes filling around at = elim filling as (λ x. List Instr) [
    | [] ↦ places_code (map main_piece sizes) around at ++ instr.Push (pos 0) ∷ []
    | fill ∷ more ↦ then_code (places_code (map main_piece sizes) around at) (wanted_code ty (main_piece fill) around) at
  ]

  made_nothing : (ty : Ty) (kind : ℕ) (slots : List ℤ) (at : ℕ) (world : World) (at1 to : ℕ) (o : Result (List ℤ × World) Over) → GivesMany object (λ vs. vs) kind slots at [] world at1 o
      → slice_get object.main.instrs at1 ≡ Some (instr.Push (pos 0)) → suc at1 ≡ to → IsMade ty kind slots at world to (values_then o (λ w. Ok ([], w)))
  made_nothing ty kind slots at world at1 to (Ok done) g here e =
      let stack : List ℤ = reverse done.0 ++ [] in
      made_end ty kind slots at world to done.0 [] done.1 (pos 0) g.0 (sym (wrapped-same ty (pos 0) (zero-in_range ty))) g.1
      (leads_on object _ _ _ g.2 (leads_on object _ _ _ (step object (instr.Push (pos 0)) (stands at1 stack slots done.1) (stands (suc at1) (pos 0 ∷ stack) slots done.1) here refl)
      (leads_same object (suc at1) to (pos 0 ∷ stack) slots done.1 e)))
  made_nothing ty kind slots at world at1 to (Err over) g here e = g

  made_fill : (ty : Ty) (kind : ℕ) (slots : List ℤ) (at : ℕ) (world : World) (at1 to : ℕ) (o : Result (List ℤ × World) Over) (next : World → Result (ℤ × World) Over)
      → GivesMany object (λ vs. vs) kind slots at [] world at1 o
      → ((vs : List ℤ) (w : World) → IsLike world w → Gives object ty slots at1 (reverse vs ++ []) w to (reverse vs ++ []) (then_do (next w) (λ a w. Ok (wrapped ty a, w))))
      → IsMade ty kind slots at world to (values_then o (λ w. then_do (next w) (λ v w. Ok (v ∷ [], w))))
  made_fill ty kind slots at world at1 to (Ok done) next g f = by (next done.1) (f done.0 done.1 g.1)
    where
      by : (q : Result (ℤ × World) Over) → Gives object ty slots at1 (reverse done.0 ++ []) done.1 to (reverse done.0 ++ []) (then_do q (λ a w. Ok (wrapped ty a, w)))
          → IsMade ty kind slots at world to (then_do (then_do q (λ v w. Ok (v ∷ [], w))) (λ us w. Ok (done.0 ++ us, w)))
      by (Ok one) h = made_end ty kind slots at world to done.0 (one.0 ∷ []) one.1 (wrapped ty one.0) g.0 refl (like_on world done.1 one.1 g.1 h.1) (leads_on object _ _ _ g.2 h.2)
      by (Err over) h = g.2.by _ h
  made_fill ty kind slots at world at1 to (Err over) next g f = g

  made_values : (ty : Ty) (sizes filling : List Expr) (st : Standing) (state : State) (before : Numbers) (slots : List ℤ) → length filling ≤ 1
      → all_fit (map fits sizes) (around_at functions st) ≡ true → all_fit (map fits filling) (around_at functions st) ≡ true → IsAt object functions judgements st state before slots
      → (at : ℕ) → HasAt object.main.instrs at (make_code_of ty sizes filling (around_at functions st) at)
      → IsMade ty (length sizes) slots at state.world (at + length (make_code_of ty sizes filling (around_at functions st) at))
      (values_then (values_of (map meaning_of sizes) (main_names state) state.world) (values_of (map meaning_of filling) (main_names state)))
  made_values ty sizes [] st state before slots few fit fit2 is at has =
      let code : List Instr = places_code (map main_piece sizes) (around_at functions st) at in
      let last : List Instr = instr.Push (pos 0) ∷ [] in
      made_nothing ty (length sizes) slots at state.world (at + length code) (at + length (code ++ last)) (values_of (map meaning_of sizes) (main_names state) state.world)
      (places_give object functions sizes (record { scope = st.scope; state = state; slots = slots; bound = length st.slots; agree = is.agree; callables = is.callables; tidy = is.tidy }) fit at [] state.world (like_same state.world)
      (has_front object.main.instrs at code last has))
      (has_back object.main.instrs at code last has).0 (omega (arith, length-append code last))
  made_values ty sizes (fill ∷ []) st state before slots few fit fit2 is at has =
      let a : Around = around_at functions st in
      let code : List Instr = places_code (map main_piece sizes) a at in
      let at1 : ℕ = at + length code in
      let second : List Instr = wanted_code ty (main_piece fill) a at1 in
      let to : ℕ = at + length (code ++ second) in
      let e : at1 + length second ≡ to = omega (arith, length-append code second) in
      made_fill ty (length sizes) slots at state.world at1 to (values_of (map meaning_of sizes) (main_names state) state.world) (λ w. (meaning_of fill).value (main_names state) w)
      (places_give object functions sizes (record { scope = st.scope; state = state; slots = slots; bound = length st.slots; agree = is.agree; callables = is.callables; tidy = is.tidy }) fit at [] state.world (like_same state.world)
      (has_front object.main.instrs at code second has))
      (λ vs w like. subst (λ n. Gives object ty slots at1 (reverse vs ++ []) w n (reverse vs ++ []) (then_do ((meaning_of fill).value (main_names state) w) (λ a w. Ok (wrapped ty a, w)))) e
      (wanted_value object functions judgements ty fill st state before slots (and_left (fits fill a) true fit2) is at1 (reverse vs ++ []) w like (has_back object.main.instrs at code second has)))
  made_values ty sizes (fill ∷ other ∷ more) st state before slots few fit fit2 is at has = absurd (omega (arith, few))

  -- the instruction finds its sizes and its fill value
  make_found : (container kind : ℕ) (ty : Ty) (name : List ℕ) (declared : Declared) → slice_get object.containers container ≡ Some declared → declared.name ≡ name
      → (vs : List ℤ) → length vs ≡ kind → (c : ℤ) (at : ℕ) (slots : List ℤ) (w : World)
      → next_in_main object (instr.Make container kind ty kind) (stands at (reverse (vs ++ c ∷ []) ++ []) slots w)
      ≡ going_in (stands at (reverse (vs ++ c ∷ []) ++ []) slots w) [] (make container name ty vs c w)
  make_found container kind ty name declared there name_is vs n c at slots w =
      let point : MainPoint = stands at (reverse (vs ++ c ∷ []) ++ []) slots w in
      let next : List ℤ → List ℤ → MainNext = λ values rest. going_in point rest (make container declared.name ty (take kind values) (last_of kind values) w) in
      let last_is : last_of kind (vs ++ c ∷ []) ≡ c = subst (λ k. slice_index_or (vs ++ c ∷ []) k (pos 0) ≡ c) n (at-seam vs c (pos 0)) in
      ap (λ (o : Option Declared). elim o as (λ x. MainNext) [
        | Some declared ↦ with_many (suc kind) point.stack (λ values rest. going_in point rest (make container declared.name ty (take kind values) (last_of kind values) w))
        | None ↦ Stuck
      ]) there
      ∙ many_found object (vs ++ c ∷ []) [] (suc kind) next (omega (arith, length-append vs (c ∷ []), n))
      ∙ ap (λ (l : List ℤ). going_in point [] (make container declared.name ty l (last_of kind (vs ++ c ∷ [])) w)) (take-whole vs (c ∷ []) kind n)
      ∙ ap (λ (x : ℤ). going_in point [] (make container declared.name ty vs x w)) last_is
      ∙ ap (λ (m : List ℕ). going_in point [] (make container m ty vs c w)) name_is

  -- the container is made, and comes into scope
  makes : (kind : ℕ) (ty : Ty) (name : List ℕ) (st : Standing) (s : State) (before : Numbers) (slots : List ℤ) → IsAt object functions judgements (behind_line st) s before slots
      → (declared : Declared) → slice_get object.containers (length st.containers) ≡ Some declared → slice_get object.containers before.containers ≡ Some declared → declared.name ≡ name → declared.ty ≡ ty
      → (at at1 end : ℕ) (o : Result (List ℤ × World) Over) → IsMade ty kind slots at s.world at1 o
      → slice_get object.main.instrs at1 ≡ Some (instr.Make (length st.containers) kind ty kind) → suc at1 ≡ end
      → Runs object functions slots at [] s.world end ((name, Whole (length st.containers) ty) ∷ st.scope) (length st.slots)
      (and_run (in_state s o) (λ done. and_run (in_world (make before.containers name ty (take kind done.0) (fill_of (drop kind done.0))) done.1) (λ now. Ok (declaring name (tree.Whole before.containers ty) now))))
  makes kind ty name st s before slots is declared there there2 name_is ty_is at at1 end (Ok done) g here e =
      let scope : List (List ℕ × Named) = (name, Whole (length st.containers) ty) ∷ st.scope in
      let vs : List ℤ = take kind done.0 in
      let fill : ℤ = fill_of (drop kind done.0) in
      let c : ℤ = wrapped ty fill in
      let stack : List ℤ = reverse (vs ++ c ∷ []) ++ [] in
      let w : World = done.1 in
      let s2 : State = record s { world = w } in
      let does = make_found (length st.containers) kind ty name declared there name_is vs g.0 c at1 slots w
      ∙ ap (λ (r : Result World Over). going_in (stands at1 stack slots w) [] r) (make-converted object (length st.containers) name ty vs fill w)
      ∙ ap (λ n. going_in (stands at1 stack slots w) [] (make n name ty vs fill w)) (sym is.containers) in
      runs_after object functions slots slots at at1 [] stack s.world w end scope (length st.slots)
      (and_run (in_world (make before.containers name ty vs fill) s2) (λ now. Ok (declaring name (tree.Whole before.containers ty) now))) (omega (arith, g.1.left)) refl g.2
      (runs_in_world object functions slots at1 stack s2 end end scope (length st.slots) (instr.Make (length st.containers) kind ty kind) (make before.containers name ty vs fill w)
      (λ now. Ok (declaring name (tree.Whole before.containers ty) now)) here e does
      (λ world eq.
      let t = made_tidy object before.containers name ty vs fill w world declared there2 ty_is (tidy_like object s.world w g.1 is.tidy) eq in (
        omega (arith, t.1),
        runs_nothing object functions slots end end scope (length st.slots) (declaring name (tree.Whole before.containers ty) (record s2 { world = world })) refl
            (refl, record { number_is = is.containers; ty_is = refl; declared = declared; there = there; declared_ty = ty_is }, is.agree) is.callables t.0,
      )))
  makes kind ty name st s before slots is declared there there2 name_is ty_is at at1 end (Err over) g here e = g

  pub make_follows : (kind : ℕ) (ty : Ty) (name : List ℕ) (arguments : List Expr) (line : ℕ)
      → IsFollowing (at_line (running_step judgements (what.Make kind ty name arguments)) line) (judge_step (what.Make kind ty name arguments) line)
  make_follows kind ty name arguments line = record {
    keeps = record {
      at = λ st. omega arith;
      scope = λ st. ((name, Whole (length st.containers) ty) ∷ [], refl);
      slots = λ st. omega arith;
      containers = λ st. (record { name = name; kind = kind; ty = ty } ∷ [], refl, refl);
      instances = λ st. ([], sym (append-nil st.instances), refl);
      light = λ e. let no : ⊥ = cc in absurd no;
      step = λ e st. let no : ⊥ = cc in absurd no;
      plain = λ e st. let no : ⊥ = cc in absurd no;
    };
    anywhere = λ e before other state. let no : ⊥ = cc in absurd no;
    does = λ st state before slots fit is held room has.
        let st1 : Standing = behind_line st in
        let a : Around = around_at functions st1 in
        let count : Bool = (kind == 1) && (length arguments == 1 || length arguments == 2) in
        let few = few_arguments kind arguments (made_few kind (length arguments) (and_left count (all_fit (map fits arguments) a) fit)) in
        let fine = and_right count (all_fit (map fits arguments) a) fit in
        let sizes : List Expr = take kind arguments in
        let filling : List Expr = drop kind arguments in
        let code : List Instr = make_code ty kind arguments a st1.at in
        let last : Instr = instr.Make (length st.containers) kind ty kind in
        let here_is : suc st.at ≡ st1.at = omega arith in
        let has1 : HasAt object.main.instrs st1.at (code ++ last ∷ []) = subst (λ n. HasAt object.main.instrs n (code ++ last ∷ [])) here_is has.1 in
        let at1 : ℕ = st1.at + length code in
        let end : ℕ = st1.at + length (code ++ last ∷ []) in
        let scope : List (List ℕ × Named) = (name, Whole (length st.containers) ty) ∷ st.scope in
        let declared : Declared = record { name = name; kind = kind; ty = ty } in
        let there : slice_get object.containers (length st.containers) ≡ Some declared = held.containers (length st.containers) declared (slice_get-seam st.containers declared []) in
        let there2 : slice_get object.containers before.containers ≡ Some declared = ap (slice_get object.containers) is.containers ∙ there in
        let split : sizes ++ filling ≡ arguments = take-append-drop kind arguments in
        let sized : length sizes ≡ kind = few.0 in
        runs_counted object functions slots st.at state st1.at end scope (length st.slots) line
        (λ s. and_run (all_evaluated arguments s) (λ done.
        and_run (in_world (make before.containers name ty (take kind done.0) (fill_of (drop kind done.0))) done.1) (λ now. Ok (declaring name (tree.Whole before.containers ty) now)))) has.0 here_is
        (λ world same less.
        let s1 : State = record state { world = world } in
        let is1 = is_counted object functions judgements st state before slots is world same in
        let values_are : values_of (map meaning_of arguments) (main_names s1) world ≡ values_then (values_of (map meaning_of sizes) (main_names s1) world) (values_of (map meaning_of filling) (main_names s1)) =
        sym (ap (λ (l : List Expr). values_of (map meaning_of l) (main_names s1) world) split) ∙ values-append sizes filling (main_names s1) world in
        let made : IsMade ty (length sizes) slots st1.at world (st1.at + length (make_code_of ty sizes filling a st1.at)) (values_then (values_of (map meaning_of sizes) (main_names s1) world) (values_of (map meaning_of filling) (main_names s1))) =
        made_values ty sizes filling st1 s1 before slots few.1 (fit_take a kind arguments fine) (fit_drop a kind arguments fine) is1 st1.at (has_front object.main.instrs st1.at code (last ∷ []) has1) in
        let made2 = subst (λ k. IsMade ty k slots st1.at world at1 (values_then (values_of (map meaning_of sizes) (main_names s1) world) (values_of (map meaning_of filling) (main_names s1)))) sized made in
        let made3 = subst (λ (o : Result (List ℤ × World) Over). IsMade ty kind slots st1.at world at1 o) (sym values_are) made2 in
        makes kind ty name st s1 before slots is1 declared there there2 refl refl st1.at at1 end (values_of (map meaning_of arguments) (main_names s1) world) made3
        (has_back object.main.instrs st1.at code (last ∷ []) has1).0 (omega (arith, length-append code (last ∷ []))));
  }

  -- ---- writing

  abbrev type_named : Option Named → Ty
  type_named n = named_type n

  abbrev whole_named : Option Named → ℕ
  whole_named n = elim n as (λ x. ℕ) [
    | Some named ↦ elim named as (λ x. ℕ) [ Whole container ty ↦ container | Number slot ty ↦ 0 | Called made ↦ 0 ]
    | None ↦ 0
  ]

  abbrev whole_meant : Option Meant → ℕ
  whole_meant m = elim m as (λ x. ℕ) [
    | Some meant ↦ elim meant as (λ x. ℕ) [ tree.Whole number ty ↦ number | tree.Scalar ty value ↦ 0 | tree.Called instance ↦ 0 ]
    | None ↦ 0
  ]

  -- the instruction finds its place and its value
  poke_found : (container count : ℕ) (vs : List ℤ) → length vs ≡ count → (c : ℤ) (at : ℕ) (slots : List ℤ) (w : World)
      → next_in_main object (instr.Poke container count) (stands at (reverse (vs ++ c ∷ []) ++ []) slots w)
      ≡ going_in (stands at (reverse (vs ++ c ∷ []) ++ []) slots w) [] (poke container vs c w)
  poke_found container count vs n c at slots w =
      let point : MainPoint = stands at (reverse (vs ++ c ∷ []) ++ []) slots w in
      let next : List ℤ → List ℤ → MainNext = λ values rest. going_in point rest (poke container (take count values) (last_of count values) w) in
      let last_is : last_of count (vs ++ c ∷ []) ≡ c = subst (λ k. slice_index_or (vs ++ c ∷ []) k (pos 0) ≡ c) n (at-seam vs c (pos 0)) in
      many_found object (vs ++ c ∷ []) [] (suc count) next (omega (arith, length-append vs (c ∷ []), n))
      ∙ ap (λ (l : List ℤ). going_in point [] (poke container l (last_of count (vs ++ c ∷ [])) w)) (take-whole vs (c ∷ []) count n)
      ∙ ap (λ (x : ℤ). going_in point [] (poke container vs x w)) last_is

  abbrev poke_run : List ℕ → List Expr → Expr → Numbers → Running
  poke_run name places e before state = and_run (all_evaluated places state) (λ at.
      and_run (evaluated e at.1) (λ done. in_world (poke (number_in state.scope name) at.0 done.0) done.1))

  abbrev poke_emits : List ℕ → List Expr → Expr → Emitting
  poke_emits name places e = taking (poke_code name places e) (parts_depth (map main_piece (places ++ e ∷ []))) (λ around standing. instr.Poke (container_named around name) (length places) ∷ [])

  abbrev poke_test : List ℕ → List Expr → Expr → Test
  poke_test name places e fs st =
      is_whole (bound_to name st.scope) && (length places == 1) && all_fit (map fits places) (around_at fs st) && fits e (around_at fs st)

  poke_does : (name : List ℕ) (places : List Expr) (e : Expr) → Does object functions judgements (poke_run name places e) (poke_emits name places e) (poke_test name places e)
  poke_does name places e st state before slots fit is held room has =
      by_named (bound_to name st.scope) (bound_to name state.scope) (name_found object name st.scope state.scope slots (length st.slots) is.agree)
      p.whole p.places p.value has
    where
      p : IsPoked (is_whole (bound_to name st.scope)) (length places) (all_fit (map fits places) (around_at functions st)) (fits e (around_at functions st))
      p = poked_parts (is_whole (bound_to name st.scope)) (length places) (all_fit (map fits places) (around_at functions st)) (fits e (around_at functions st)) fit

      by_named : (n : Option Named) (m : Option Meant) → AreNamed object n m slots (length st.slots) → is_whole n ≡ true → all_fit (map fits places) (around_at functions st) ≡ true → fits e (around_at functions st) ≡ true
          → HasAt object.main.instrs st.at (then_code (places_code (map main_piece places) (around_at functions st) st.at) (wanted_code (type_named n) (main_piece e) (around_at functions st)) st.at ++ instr.Poke (whole_named n) (length places) ∷ [])
          → Runs object functions slots st.at [] state.world
          (st.at + length (then_code (places_code (map main_piece places) (around_at functions st) st.at) (wanted_code (type_named n) (main_piece e) (around_at functions st)) st.at ++ instr.Poke (whole_named n) (length places) ∷ []))
          st.scope (length st.slots)
          (and_run (all_evaluated places state) (λ at. and_run (evaluated e at.1) (λ done. in_world (poke (whole_meant m) at.0 done.0) done.1)))
      by_named (Some (Whole container ty)) (Some (tree.Whole number other)) h whole fit1 fit2 has =
          let a : Around = around_at functions st in
          let first : List Instr = places_code (map main_piece places) a st.at in
          let at1 : ℕ = st.at + length first in
          let second : List Instr = wanted_code ty (main_piece e) a at1 in
          let at2 : ℕ = at1 + length second in
          let last : Instr = instr.Poke container (length places) in
          let end : ℕ = st.at + length ((first ++ second) ++ last ∷ []) in
          let size : length (first ++ second) ≡ length first + length second = length-append first second in
          let has1 = has_front object.main.instrs st.at (first ++ second) (last ∷ []) has in
          let e2 : st.at + length (first ++ second) ≡ at2 = omega (arith, size) in
          let here = subst (λ n. slice_get object.main.instrs n ≡ Some last) e2 (has_back object.main.instrs st.at (first ++ second) (last ∷ []) has).0 in
          let there : slice_get object.containers number ≡ Some h.declared = ap (slice_get object.containers) h.number_is ∙ h.there in
          runs_values object functions (λ vs. vs) (length places) slots st.at state at1 end st.scope (length st.slots) (values_of (map meaning_of places) (main_names state) state.world)
          (λ at. and_run (evaluated e at.1) (λ done. in_world (poke number at.0 done.0) done.1))
          (places_give object functions places (record { scope = st.scope; state = state; slots = slots; bound = length st.slots; agree = is.agree; callables = is.callables; tidy = is.tidy }) fit1 st.at [] state.world (like_same state.world)
          (has_front object.main.instrs st.at first second has1))
          (λ vs w n like.
          let s1 : State = record state { world = w } in
          let is1 : IsAt object functions judgements st s1 before slots =
          record { agree = is.agree; callables = is.callables; tidy = tidy_like object state.world w like is.tidy; containers = is.containers; instances = is.instances } in
          runs_wanted object functions ty slots at1 (reverse vs ++ []) s1 at2 end st.scope (length st.slots) ((meaning_of e).value (main_names s1) w)
          (λ done. in_world (poke number vs done.0) done.1)
          (wanted_value object functions judgements ty e st s1 before slots fit2 is1 at1 (reverse vs ++ []) w (like_same w) (has_back object.main.instrs st.at first second has1))
          (λ v w2 like2.
          let c : ℤ = wrapped ty v in
          let s2 : State = record state { world = w2 } in
          let tidy2 = tidy_like object w w2 like2 is1.tidy in
          let p = poked_so object ty w2 number vs v h.declared there h.declared_ty tidy2 in
          subst (λ (stack : List ℤ). Runs object functions slots at2 stack w2 end st.scope (length st.slots) (in_world (poke number vs v) s2)) (sym (pushed-last vs [] c))
          (runs_world object functions slots at2 (reverse (vs ++ c ∷ []) ++ []) s2 end st.scope (length st.slots) last (poke number vs v w2) here (omega (arith, size, length-append (first ++ second) (last ∷ [])))
          (poke_found container (length places) vs n c at2 slots w2
          ∙ ap (λ n. going_in (stands at2 (reverse (vs ++ c ∷ []) ++ []) slots w2) [] (poke n vs c w2)) (sym h.number_is)
          ∙ ap (λ (r : Result World Over). going_in (stands at2 (reverse (vs ++ c ∷ []) ++ []) slots w2) [] r) p.same)
          is.agree is.callables (λ after eq. let t = p.tidy after eq in (t.0, omega (arith, t.1))))))
      by_named (Some (Number slot ty)) m h whole fit1 fit2 has = let no : ⊥ = cc in absurd no
      by_named (Some (Called made)) m h whole fit1 fit2 has = let no : ⊥ = cc in absurd no
      by_named None m h whole fit1 fit2 has = let no : ⊥ = cc in absurd no
      by_named n m h whole fit1 fit2 has = absurd h

  pub poke_follows : (name : List ℕ) (places : List Expr) (e : Expr) (line : ℕ)
      → IsFollowing (at_line (running_step judgements (what.Poke name places e)) line) (judge_step (what.Poke name places e) line)
  poke_follows name places e line = record {
    keeps = keeps_same object functions judgements (judge_step (what.Poke name places e) line) (λ st. omega arith) (λ st. refl) (λ st. omega arith) (λ st. refl) (λ st. refl);
    anywhere = λ e before other state. refl;
    does = counted_does object functions judgements line (poke_run name places e) (poke_emits name places e) (poke_test name places e) (poke_does name places e);
  }
