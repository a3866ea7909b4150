-- Legality does not depend on cells: whatever kernels write, the same steps are legal, and the states are the same.
use Rattle.std.proofs.lemmas.Option.{none-some}
use Rattle.std.specs.Prelude.{⊤}
use Rattle.std.proofs.Common.{◌-◌, ◌↔◌, slice_get, slice_index_or, ◌≡◌, ◌==◌, ◌&&◌, ◌+◌, ℕ, ℤ, List, [], ◌∷◌, length, Bool, true, false, cond, Option, Some, None, IsSomeAnd, option_map, refl, sym, subst, ap, pos}
use Rattle.sk_isa.specs.declared.object.Object.{Object}
use Rattle.sk_isa.specs.declared.object.Plan.{Plan}
use Rattle.sk_legality.specs.CallLines.{MayCall}
use Rattle.sk_legality.specs.KernelLines.{KernelLine, CallKernel, MayRun, kernel_of, first_written, written_end}
use Rattle.sk_legality.specs.Legality.{IsJudged, IsLegal, IsLegalStep, after_giving, states_after, writes_results}
use Rattle.sk_legality.specs.Replay.{after_kernel, replayed, results_of}
use Rattle.sk_spaces.specs.Machine.{Machine, Message, Home, MemoryLine, CallLine, CopyState, unused, live, freed, flying, delivered, start, after_change, spoilt_fate, do_overlap, writes_at, sends_at, frees_at, delivers_it}
use Rattle.sk_spaces.specs.Rules.{IsThere, CanCopy, HasRoom, AreLegalBy, after_by, after_all_by}
use Rattle.sk_spaces.specs.declared.step.Step.{Step}
use Rattle.sk_spaces.specs.declared.step.Step.TheVariants as line

-- a machine with other cells, and with other messages
abbrev pub other_cells : Machine → (cells : ℕ → ℕ → ℤ) → (messages : ℕ → Option Message) → Machine
other_cells m cells messages = record m { cells = cells; messages = messages }

-- the same message but for its cells
abbrev pub AreAlike : Option Message → Option Message → Type 0
AreAlike None None = Unit {0}
AreAlike None (Some other) = ⊥
AreAlike (Some one) None = ⊥
AreAlike (Some one) (Some other) = other ≡ record one { cells = other.cells }

abbrev pub AllAlike : (messages others : ℕ → Option Message) → Type 0
AllAlike messages others = (k : ℕ) → AreAlike (messages k) (others k)

alike-same : (message : Option Message) → AreAlike message message
alike-same None = tt
alike-same (Some message) = refl

alike-back : (one other : Option Message) → AreAlike one other → AreAlike other one
alike-back None None alike = tt
alike-back (Some one) (Some other) alike = sym (ap (λ (message : Message). record message { cells = one.cells }) alike)
alike-back None (Some other) alike = alike
alike-back (Some one) None alike = alike

and-so : {A : Type 0} (found : Option A) (P Q : A → Type 0) → ((a : A) → P a → Q a) → IsSomeAnd found P → IsSomeAnd found Q
and-so None P Q so is = is
and-so (Some a) P Q so is = so a is

there-so : (state : CopyState) (P Q : Home → Type 0) → ((home : Home) → P home → Q home) → IsThere state P → IsThere state Q
there-so unused P Q so is = is
there-so (live home) P Q so is = so home is
there-so freed P Q so is = is

-- ---- each step keeps machines alike

spoilt-by : (test : Bool) (one : Message) (cells : ℕ → ℤ)
    → cond test (record one { cells = cells; fate = spoilt_fate one.fate }) (record one { cells = cells })
    ≡ record (cond test (record one { fate = spoilt_fate one.fate }) one) { cells = (cond test (record one { cells = cells; fate = spoilt_fate one.fate }) (record one { cells = cells })).cells }
spoilt-by true one cells = refl
spoilt-by false one cells = refl

spoilt-alike : (store lo hi : ℕ) (one other : Option Message) → AreAlike one other
    → AreAlike (option_map (after_change store lo hi) one) (option_map (after_change store lo hi) other)
spoilt-alike store lo hi None None alike = tt
spoilt-alike store lo hi (Some one) (Some other) alike =
    subst (λ (message : Message). after_change store lo hi message ≡ record (after_change store lo hi one) { cells = (after_change store lo hi message).cells })
    (sym alike) (spoilt-by ((one.store == store) && do_overlap lo hi one.lo one.hi) one other.cells)
spoilt-alike store lo hi None (Some other) alike = alike
spoilt-alike store lo hi (Some one) None alike = alike

replaced-alike : (here : Bool) (new newer old older : Option Message) → AreAlike new newer → AreAlike old older
    → AreAlike (cond here new old) (cond here newer older)
replaced-alike true new newer old older alike others = alike
replaced-alike false new newer old older alike others = others

-- two machines that differ in cells and in the cells of messages alone
abbrev pub IsAlike : Machine → Machine → Type 0
IsAlike m other = (other ≡ other_cells m other.cells other.messages) × AllAlike m.messages other.messages

module _ (m : Machine) (cells : ℕ → ℕ → ℤ) (messages : ℕ → Option Message) (alike : AllAlike m.messages messages) where
  abbrev another : Machine
  another = other_cells m cells messages

  written-alike : (state : CopyState) (copy lo hi : ℕ) (one two : ℕ → ℤ)
      → IsAlike (writes_at state copy lo hi one m) (writes_at state copy lo hi two another)
  written-alike unused copy lo hi one two = (refl, alike)
  written-alike (live home) copy lo hi one two = (refl, λ k. spoilt-alike home.store lo hi (m.messages k) (messages k) (alike k))
  written-alike freed copy lo hi one two = (refl, alike)

  freed-alike : (state : CopyState) (copy : ℕ) → IsAlike (frees_at state copy m) (frees_at state copy another)
  freed-alike unused copy = (refl, alike)
  freed-alike (live home) copy = (refl, alike)
  freed-alike freed copy = (refl, alike)

  sent-alike : (state : CopyState) (number source target lo hi : ℕ)
      → IsAlike (sends_at state number source target lo hi m) (sends_at state number source target lo hi another)
  sent-alike unused number source target lo hi = (refl, alike)
  sent-alike (live home) number source target lo hi =
      let message : (ℕ → ℤ) → Message = λ sent. record { store = home.store; target = target; lo = lo; hi = hi; cells = sent; fate = flying } in
      (refl, λ k. replaced-alike (k == number) (Some (message (m.cells source))) (Some (message (cells source))) (m.messages k) (messages k) refl (alike k))
  sent-alike freed number source target lo hi = (refl, alike)

  delivered-alike : (one other : Option Message) (number : ℕ) → AreAlike one other
      → IsAlike (delivers_it one number m) (delivers_it other number another)
  delivered-alike None None number same = (refl, alike)
  delivered-alike (Some one) (Some other) number same =
      subst (λ (message : Message). IsAlike (delivers_it (Some one) number m) (delivers_it (Some message) number another)) (sym same) (
        refl,
        λ k. replaced-alike (k == number) (Some (record one { fate = delivered })) (Some (record one { cells = other.cells; fate = delivered }))
            (m.messages k) (messages k) refl (alike k),
      )
  delivered-alike None (Some other) number same = absurd same
  delivered-alike (Some one) None number same = absurd same

  kernel-alike : (line : KernelLine) (one two : ℕ → ℤ) → IsAlike (writes_results line one m) (writes_results line two another)
  kernel-alike line one two = by line.trapped
    where
      by : (trapped : Option ℕ) → IsAlike (writes_results (record line { trapped = trapped }) one m) (writes_results (record line { trapped = trapped }) two another)
      by (Some element) = (refl, alike)
      by None = written-alike (m.copies line.out) line.out (first_written line) (written_end line) one two

  -- what steps do, whatever kernels give
  step-alike : (one two : Machine → KernelLine → ℕ → ℤ) (step : Step)
      → IsAlike (after_by (after_giving one) m step) (after_by (after_giving two) another step)
  step-alike one two (line.Memory ranks capacity tile lineage) = (refl, alike)
  step-alike one two (line.Store store ty shape) = (refl, alike)
  step-alike one two (line.Alloc copy store space lo hi) = (refl, alike)
  step-alike one two (line.Free copy) = freed-alike (m.copies copy) copy
  step-alike one two (line.Stale store lo hi) = (refl, λ k. spoilt-alike store lo hi (m.messages k) (messages k) (alike k))
  step-alike one two (line.Copy source target lo hi) = (refl, alike)
  step-alike one two (line.Back source target lo hi) = (refl, alike)
  step-alike one two (line.Send number source target lo hi) = sent-alike (m.copies source) number source target lo hi
  step-alike one two (line.Deliver number) = delivered-alike (m.messages number) (messages number) number (alike number)
  step-alike one two (line.Fill copy lo hi cell) = written-alike (m.copies copy) copy lo hi (λ i. cell) (λ i. cell)
  step-alike one two (line.Write copy lo values) =
      written-alike (m.copies copy) copy lo (lo + length values) (λ i. slice_index_or values (i - lo) (pos 0)) (λ i. slice_index_or values (i - lo) (pos 0))
  step-alike one two (line.Poke copy index cell) = written-alike (m.copies copy) copy index (index + 1) (λ i. cell) (λ i. cell)
  step-alike one two (line.Clone source target lo hi) = written-alike (m.copies target) target lo hi (m.cells source) (cells source)
  step-alike one two (line.Call call text instance variant parts recorded result operands uniforms settings) = (refl, alike)
  step-alike one two (line.Kernel call kind part lo hi out trapped inputs) =
      let told : KernelLine = record { call = call; kind = kind; part = part; lo = lo; hi = hi; out = out; trapped = trapped; inputs = inputs } in
      kernel-alike told (one m told) (two another told)
  step-alike one two (line.Read copy lo hi) = (refl, alike)
  step-alike one two (line.Bind container store) = (refl, alike)
  step-alike one two (line.Unbind container) = (refl, alike)
  step-alike one two line.Flush = (refl, alike)

  none-alike : (one other : Option Message) → AreAlike one other → one ≡ None → other ≡ None
  none-alike None None same is = refl
  none-alike None (Some other) same is = absurd same
  none-alike (Some one) None same is = refl
  none-alike (Some one) (Some other) same is = absurd (none-some one (sym is))

  copied-alike : (source target lo hi : ℕ) → CanCopy m source target lo hi → CanCopy another source target lo hi
  copied-alike source target lo hi may = record { homes = may.homes; apart = may.apart; readable = may.readable }

  called-alike : (object : Object) (memory : MemoryLine) (plan : Plan) (call : CallLine)
      → MayCall object m memory plan call → MayCall object another memory plan call
  called-alike object memory plan call may = record {
    offered = may.offered;
    parts = may.parts;
    there = may.there;
    containers = may.containers;
    uniforms = may.uniforms;
    mode = may.mode;
    runs = may.runs;
    recorded = may.recorded;
  }

  run-alike : (object : Object) (kernel : CallKernel) (told : KernelLine) (out : Home)
      → MayRun object m kernel told out → MayRun object another kernel told out
  run-alike object kernel told out may = record {
    taken = may.taken;
    written = may.written;
    together = may.together;
    operands = may.operands;
    totals = may.totals;
  }

  here-alike : (one other : Option Message) → AreAlike one other
      → IsSomeAnd one (λ sent. (sent.fate ≡ flying) × IsThere (m.copies sent.target) (λ home. ⊤))
      → IsSomeAnd other (λ sent. (sent.fate ≡ flying) × IsThere (m.copies sent.target) (λ home. ⊤))
  here-alike None None same may = may
  here-alike None (Some other) same may = absurd may
  here-alike (Some one) None same may = absurd same
  here-alike (Some one) (Some other) same may =
      subst (λ (sent : Message). (sent.fate ≡ flying) × IsThere (m.copies sent.target) (λ home. ⊤)) (sym same) may

  -- a step that is legal stays so
  legal-alike : (object : Object) (step : Step) → IsLegalStep object m step → IsLegalStep object another step
  legal-alike object (line.Memory ranks capacity tile lineage) legal = legal
  legal-alike object (line.Store store ty shape) legal = legal
  legal-alike object (line.Alloc copy store space lo hi) legal = (
    legal.0,
    (
      legal.1.0,
      legal.1.1,
      legal.1.2,
      and-so m.memory (HasRoom m space (hi - lo)) (HasRoom another space (hi - lo)) (λ memory may. record { rank = may.rank; room = may.room }) legal.1.3,
    ),
  )
  legal-alike object (line.Free copy) legal = legal
  legal-alike object (line.Stale store lo hi) legal = legal
  legal-alike object (line.Copy source target lo hi) legal = (legal.0, copied-alike source target lo hi legal.1)
  legal-alike object (line.Back source target lo hi) legal = (legal.0, (copied-alike source target lo hi legal.1.0, legal.1.1))
  legal-alike object (line.Send number source target lo hi) legal =
      (legal.0, (none-alike (m.messages number) (messages number) (alike number) legal.1.0, copied-alike source target lo hi legal.1.1, legal.1.2))
  legal-alike object (line.Deliver number) legal = (legal.0, here-alike (m.messages number) (messages number) (alike number) legal.1)
  legal-alike object (line.Fill copy lo hi cell) legal = legal
  legal-alike object (line.Write copy lo values) legal = legal
  legal-alike object (line.Poke copy index cell) legal = legal
  legal-alike object (line.Clone source target lo hi) legal =
      (legal.0, record { stores = legal.1.stores; from = legal.1.from; to = legal.1.to; readable = legal.1.readable })
  legal-alike object (line.Call call text instance variant parts recorded result operands uniforms settings) legal =
      let told : CallLine = record {
        line = text;
        instance = instance;
        variant = variant;
        parts = parts;
        recorded = recorded;
        result = result;
        operands = operands;
        uniforms = uniforms;
        settings = settings;
      } in (
        legal.0,
        (
          legal.1.0,
          and-so m.memory (λ memory. IsSomeAnd (slice_get object.instances instance) (λ plan. MayCall object m memory plan told))
              (λ memory. IsSomeAnd (slice_get object.instances instance) (λ plan. MayCall object another memory plan told))
              (λ memory. and-so (slice_get object.instances instance) (λ plan. MayCall object m memory plan told)
              (λ plan. MayCall object another memory plan told) (λ plan. called-alike object memory plan told)) legal.1.1,
        ),
      )
  legal-alike object (line.Kernel call kind part lo hi out trapped inputs) legal =
      let told : KernelLine = record { call = call; kind = kind; part = part; lo = lo; hi = hi; out = out; trapped = trapped; inputs = inputs } in (
        legal.0,
        and-so (kernel_of object m told) (λ kernel. IsThere (m.copies out) (λ home. MayRun object m kernel told home))
            (λ kernel. IsThere (m.copies out) (λ home. MayRun object another kernel told home))
            (λ kernel. there-so (m.copies out) (MayRun object m kernel told) (MayRun object another kernel told) (run-alike object kernel told)) legal.1,
      )
  legal-alike object (line.Read copy lo hi) legal = legal
  legal-alike object (line.Bind container store) legal = legal
  legal-alike object (line.Unbind container) legal = legal
  legal-alike object line.Flush legal = legal

-- ---- and so do traces

module _ (one two : Machine → KernelLine → ℕ → ℤ) where
  next-alike : (m other : Machine) (step : Step) → IsAlike m other
      → IsAlike (after_by (after_giving one) m step) (after_by (after_giving two) other step)
  next-alike m other step alike =
      subst (λ (n : Machine). IsAlike (after_by (after_giving one) m step) (after_by (after_giving two) n step)) (sym alike.0)
      (step-alike m other.cells other.messages alike.1 one two step)

  legal-anyway : (object : Object) (steps : List Step) (m other : Machine) → IsAlike m other
      → AreLegalBy (IsJudged object) (after_giving one) m steps → AreLegalBy (IsJudged object) (after_giving two) other steps
  legal-anyway object [] m other alike legal = legal
  legal-anyway object (step ∷ steps) m other alike legal = (
    subst (λ (n : Machine). IsLegalStep object n step) (sym alike.0) (legal-alike m other.cells other.messages alike.1 object step legal.0),
    legal-anyway object steps (after_by (after_giving one) m step) (after_by (after_giving two) other step) (next-alike m other step alike) legal.1,
  )

  states-alike : (steps : List Step) (m other : Machine) → IsAlike m other
      → IsAlike (after_all_by (after_giving one) m steps) (after_all_by (after_giving two) other steps)
  states-alike [] m other alike = alike
  states-alike (step ∷ steps) m other alike =
      states-alike steps (after_by (after_giving one) m step) (after_by (after_giving two) other step) (next-alike m other step alike)

same-start : IsAlike start start
same-start = (refl, λ k. tt)

abbrev no_cells : Machine → KernelLine → ℕ → ℤ
no_cells m told i = pos 0

-- a trace is legal exactly where its steps are legal one after another while kernels write what they give
pub legal-by-replay : (object : Object) (trace : List Step)
    → IsLegal object trace ↔ AreLegalBy (IsJudged object) (after_kernel object) start trace
legal-by-replay object trace = (
  legal-anyway no_cells (results_of object) object trace start start same-start,
  legal-anyway (results_of object) no_cells object trace start start same-start,
)

-- replay leads to the states by which legality was judged
pub replay-has-the-states : (object : Object) (trace : List Step) → IsAlike (states_after trace) (replayed object trace)
replay-has-the-states object trace = states-alike no_cells (results_of object) trace start start same-start
