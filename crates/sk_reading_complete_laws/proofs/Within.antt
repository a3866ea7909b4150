-- What keeps the limits has no mark that exceeds one, so it is read to its end.
use Rattle.std.proofs.Common.{◌≡◌, ℕ, zero, suc, ◌+◌, ◌≤◌, List, [], ◌∷◌, length, refl, subst, arith}
use Rattle.sk_grammar.specs.ExpressionSpelling.{Expression, Arguments, each}
use Rattle.sk_grammar.specs.Grammar.{Parameter, Spelling}
use Rattle.sk_grammar.specs.Limits.{Opened, Flat, IsShallow, AreShallow, nodes_in, nodes_of, IsSmall, AreSmall, TargetFits, AssignmentFits, SimpleFits, PrintedFits, WrittenFits, BranchFits, OtherwiseFits, BlockFits, StatementsFit, written_instances, branch_instances, otherwise_instances, block_instances, instances_in, DefinitionFits, instances_of, KeepsLimits}
use Rattle.sk_grammar.specs.StatementSpelling.{Target, Assignment, Simple, Printed, Numbers, Written, Branch, Otherwise, Block, Statements}
use Rattle.sk_refusals.specs.Marks.{Mark, Marks, mark, counting, node, marks, expression_marks, arguments_marks, own_marks, each_own_marks, between_marks, target_marks, assignment_marks, simple_marks, printed_marks, shifted_marks, sequence_marks, listed_marks, numbers_marks, written_marks, branch_marks, otherwise_marks, block_marks, statements_marks, parameter_marks, parameters_marks, definitions_marks, marks_in}
use Rattle.sk_refusals.specs.Refusals.{most_of}
use Rattle.sk_refusals.specs.declared.refusal.Limited.{Limited}
use Rattle.sk_refusals.specs.declared.refusal.Limited.TheVariants.{Functions, Instances, Parameters}
use Rattle.sk_refusals.specs.declared.refusal.Refusal.{Refusal}
use Rattle.sk_reading.specs.Reading.{Outcome}
use Rattle.sk_reading_complete_laws.proofs.spelled.Judged.{CountFits, Fine, Passes, Here, Next, First, TooDeep, OneTooMany, Judged, Goes, Halts}

abbrev pub AllFine : Marks → Type 0
AllFine = Passes []

and : {mark : Mark} {more : Marks} → Fine mark → AllFine more → AllFine (mark ∷ more)
and {mark} {more} fine others = Next mark more fine others

-- ---- marks, where so many more may be opened

plain : (depth left : ℕ) → depth + left ≡ 64 → Fine (mark depth)
plain depth left within = record { depth = omega arith; count = tt }

counts : (depth left : ℕ) (what : Limited) (number : ℕ) → depth + left ≡ 64 → number ≤ most_of what → Fine (counting depth what number)
counts depth left what number within few = record { depth = omega arith; count = few }

noded : (depth left n : ℕ) → depth + left ≡ 64 → suc n ≤ 1024 → Fine (node depth (suc n))
noded depth left n within few = record { depth = omega arith; count = few }

marks-fine : (rest : Marks) (count depth left : ℕ) → depth + left ≡ 64 → AllFine rest → AllFine (marks count depth rest)
marks-fine _ zero depth left within fine = fine
marks-fine _ (suc count) depth left within fine = and (plain depth left within) (marks-fine _ count depth left within fine)

listed-fine : {A : Type 0} (rest : Marks) (l : List A) (depth left : ℕ) → depth + left ≡ 64 → AllFine rest → AllFine (listed_marks l depth rest)
listed-fine _ [] depth left within fine = fine
listed-fine _ (a ∷ []) depth left within fine = and (plain depth left within) fine
listed-fine _ (a ∷ b ∷ l) depth left within fine = and (plain depth left within) (and (plain depth left within) (listed-fine _ (b ∷ l) depth left within fine))

numbers-fine : (rest : Marks) (ns : Numbers) (depth left : ℕ) → depth + left ≡ 64 → AllFine rest → AllFine (numbers_marks ns depth rest)
numbers-fine _ Numbers.NoNumbers depth left within fine = fine
numbers-fine _ (Numbers.Between lines l) depth left within fine = and (plain depth left within) (listed-fine _ l depth left within (and (plain depth left within) fine))

opened : (P : ℕ → Type 0) {X : Type 0} (left depth : ℕ) → depth + left ≡ 64 → Opened P left → ((inside : ℕ) → suc depth + inside ≡ 64 → P inside → X) → X
opened P zero depth within none go = absurd none
opened P (suc left) depth within is go = go left (omega arith) is

-- ---- expressions

mutual
  expression-fine : (rest : Marks) (s : Expression) (left depth before : ℕ) → depth + left ≡ 64 → IsShallow s left → before + nodes_in s ≤ 1024 → AllFine rest → AllFine (expression_marks s depth before rest)
  expression-fine _ (Expression.Number line ty value) left depth before within flat few fine = and (noded depth left before within (omega arith)) fine
  expression-fine _ (Expression.Name line name) left depth before within flat few fine = and (noded depth left before within (omega arith)) fine
  expression-fine _ (Expression.Field lines name field) left depth before within flat few fine = and (noded depth left before within (omega arith)) (marks-fine _ 2 depth left within fine)
  expression-fine _ (Expression.Method lines name method) left depth before within flat few fine =
      and (noded depth left before within (omega arith)) (marks-fine _ 2 depth left within (opened Flat left depth within flat (λ inside deeper _. marks-fine _ 2 (suc depth) inside deeper fine)))
  expression-fine _ (Expression.Alone lines name) left depth before within flat few fine =
      and (noded depth left before within (omega arith)) (opened Flat left depth within flat (λ inside deeper _. marks-fine _ 2 (suc depth) inside deeper fine))
  expression-fine _ (Expression.Apply lines name ss) left depth before within flat few fine =
      and (noded depth left before within (omega arith)) (opened (AreShallow ss) left depth within flat (λ inside deeper shallow.
      and (plain (suc depth) inside deeper) (arguments-fine _ ss inside (suc depth) (suc before) deeper shallow (omega arith) (and (plain (suc depth) inside deeper) fine))))
  expression-fine _ (Expression.Index lines name place) left depth before within flat few fine =
      and (noded depth left before within (omega arith)) (opened (IsShallow place) left depth within flat (λ inside deeper shallow.
      and (plain (suc depth) inside deeper) (expression-fine _ place inside (suc depth) (suc before) deeper shallow (omega arith) (and (plain (suc depth) inside deeper) fine))))
  expression-fine _ (Expression.Paren lines s) left depth before within flat few fine = opened (IsShallow s) left depth within flat (λ inside deeper shallow.
      and (plain (suc depth) inside deeper) (expression-fine _ s inside (suc depth) before deeper shallow few (and (plain (suc depth) inside deeper) fine)))
  expression-fine _ (Expression.Prefix line sg op s) left depth before within flat few fine = opened (IsShallow s) left depth within flat (λ inside deeper shallow.
      and (noded (suc depth) inside before deeper (omega arith)) (expression-fine _ s inside (suc depth) (suc before) deeper shallow (omega arith) fine))
  expression-fine _ (Expression.Convert lines ty s) left depth before within flat few fine = opened (IsShallow s) left depth within flat (λ inside deeper shallow.
      and (noded (suc depth) inside before deeper (omega arith)) (marks-fine _ 2 (suc depth) inside deeper (expression-fine _ s inside (suc depth) (suc before) deeper shallow (omega arith) fine)))
  expression-fine _ (Expression.Join line sg joint one other) left depth before within flat few fine =
      let middle = before + nodes_in one in
      expression-fine _ one left depth before within flat.0 (omega arith) (and (noded depth left middle within (omega arith)) (expression-fine _ other left depth (suc middle) within flat.1 (omega arith) fine))
  expression-fine _ (Expression.Choose lines test one other) left depth before within flat few fine =
      let middle = before + nodes_in test in
      expression-fine _ test left depth before within flat.0 (omega arith) (and (noded depth left middle within (omega arith))
      (expression-fine _ one left depth (suc middle) within flat.1 (omega arith) (and (plain depth left within)
      (opened (IsShallow other) left depth within flat.2 (λ inside deeper shallow. expression-fine _ other inside (suc depth) (suc middle + nodes_in one) deeper shallow (omega arith) fine)))))

  arguments-fine : (rest : Marks) (ss : Arguments) (left depth before : ℕ) → depth + left ≡ 64 → AreShallow ss left → before + nodes_of ss ≤ 1024 → AllFine rest → AllFine (arguments_marks ss depth before rest)
  arguments-fine _ (Arguments.Last s) left depth before within flat few fine = expression-fine _ s left depth before within flat few fine
  arguments-fine _ (Arguments.More s line ss) left depth before within flat few fine =
      expression-fine _ s left depth before within flat.0 (omega arith) (and (plain depth left within) (arguments-fine _ ss left depth (before + nodes_in s) within flat.1 (omega arith) fine))

own-fine : (rest : Marks) (s : Expression) (left depth : ℕ) → depth + left ≡ 64 → IsSmall s left → AllFine rest → AllFine (own_marks s depth rest)
own-fine _ s left depth within small fine = expression-fine _ s left depth 0 within small.0 (omega (arith, small.1)) fine

owns-fine : (rest : Marks) (ss : Arguments) (left depth : ℕ) → depth + left ≡ 64 → AreSmall ss left → AllFine rest → AllFine (each_own_marks ss depth rest)
owns-fine _ (Arguments.Last s) left depth within small fine = own-fine _ s left depth within small fine
owns-fine _ (Arguments.More s line ss) left depth within small fine = own-fine _ s left depth within small.0 (and (plain depth left within) (owns-fine _ ss left depth within small.1 fine))

between-fine : (rest : Marks) (ss : Arguments) (left depth : ℕ) → depth + left ≡ 64 → Opened (AreSmall ss) left → AllFine rest → AllFine (between_marks ss depth rest)
between-fine _ ss left depth within fits fine = opened (AreSmall ss) left depth within fits (λ inside deeper small.
    and (plain (suc depth) inside deeper) (owns-fine _ ss inside (suc depth) deeper small (and (plain (suc depth) inside deeper) fine)))

inside-fine : (rest : Marks) (s : Expression) (left depth : ℕ) → depth + left ≡ 64 → Opened (IsSmall s) left → AllFine rest → AllFine (mark (suc depth) ∷ own_marks s (suc depth) (mark (suc depth) ∷ rest))
inside-fine _ s left depth within fits fine = opened (IsSmall s) left depth within fits (λ inside deeper small.
    and (plain (suc depth) inside deeper) (own-fine _ s inside (suc depth) deeper small (and (plain (suc depth) inside deeper) fine)))

-- ---- short statements

target-fine : (rest : Marks) (t : Target) (left depth : ℕ) → depth + left ≡ 64 → TargetFits t left → AllFine rest → AllFine (target_marks t depth rest)
target-fine _ (Target.Variable line name) left depth within fits fine = and (plain depth left within) fine
target-fine _ (Target.Element lines name ss) left depth within fits fine = and (plain depth left within) (between-fine _ ss left depth within fits fine)
target-fine _ (Target.Bracketed lines name s) left depth within fits fine = and (plain depth left within) (inside-fine _ s left depth within fits fine)

assignment-fine : (rest : Marks) (a : Assignment) (left depth : ℕ) → depth + left ≡ 64 → AssignmentFits a left → AllFine rest → AllFine (assignment_marks a depth rest)
assignment-fine _ (Assignment.Assign t line sg how s) left depth within fits fine = target-fine _ t left depth within fits.0 (and (plain depth left within) (own-fine _ s left depth within fits.1 fine))
assignment-fine _ (Assignment.StepAfter t line sg op) left depth within fits fine = target-fine _ t left depth within fits (and (plain depth left within) fine)
assignment-fine _ (Assignment.StepBefore line sg op t) left depth within fits fine = and (plain depth left within) (target-fine _ t left depth within fits fine)

simple-fine : (rest : Marks) (s : Simple) (left depth : ℕ) → depth + left ≡ 64 → SimpleFits s left → AllFine rest → AllFine (simple_marks s depth rest)
simple-fine _ (Simple.Declare lines ty name s) left depth within fits fine = marks-fine _ 3 depth left within (own-fine _ s left depth within fits fine)
simple-fine _ (Simple.Assigning a) left depth within fits fine = assignment-fine _ a left depth within fits fine

printed-fine : (rest : Marks) (printed : Printed) (left depth : ℕ) → depth + left ≡ 64 → PrintedFits printed left → AllFine rest → AllFine (printed_marks printed depth rest)
printed-fine _ (Printed.PrintedText line text) left depth within fits fine = and (plain depth left within) fine
printed-fine _ (Printed.PrintedEnd lines) left depth within fits fine = marks-fine _ 3 depth left within fine
printed-fine _ (Printed.PrintedValue s) left depth within fits fine = own-fine _ s left depth within fits fine

items-fine : (rest : Marks) (l : List (ℕ × Printed)) (left depth : ℕ) → depth + left ≡ 64 → each (λ printed. PrintedFits printed.1 left) l → AllFine rest → AllFine (sequence_marks (shifted_marks depth) l rest)
items-fine _ [] left depth within fits fine = fine
items-fine _ (printed ∷ l) left depth within fits fine = and (plain depth left within) (printed-fine _ printed.1 left depth within fits.0 (items-fine _ l left depth within fits.1 fine))

-- ---- statements

mutual
  written-fine : (rest : Marks) (w : Written) (left depth before : ℕ) → depth + left ≡ 64 → WrittenFits w left → before + written_instances w ≤ 1024 → AllFine rest → AllFine (written_marks w depth before rest)
  written-fine _ (Written.Simply s line) left depth before within fits few fine = simple-fine _ s left depth within fits (and (plain depth left within) fine)
  written-fine _ (Written.Make lines k sizes ty name ss) left depth before within fits few fine = marks-fine _ 7 depth left within (between-fine _ ss left depth within fits (and (plain depth left within) fine))
  written-fine _ (Written.Take lines k sizes ty name input) left depth before within fits few fine =
      marks-fine _ 9 depth left within (opened Flat left depth within fits (λ inside deeper _. marks-fine _ 3 (suc depth) inside deeper (and (plain depth left within) fine)))
  written-fine _ (Written.Instantiate lines name k skeleton ns fs) left depth before within fits few fine =
      and (counts depth left Instances (suc before) within (omega arith)) (marks-fine _ 5 depth left within (numbers-fine _ ns depth left within (opened Flat left depth within fits (λ inside deeper _.
      and (plain (suc depth) inside deeper) (listed-fine _ fs (suc depth) inside deeper (and (plain (suc depth) inside deeper) (and (plain depth left within) fine)))))))
  written-fine _ (Written.SetValue lines name k sets s) left depth before within fits few fine = marks-fine _ 3 depth left within (inside-fine _ s left depth within fits (and (plain depth left within) fine))
  written-fine _ (Written.SetOverlap lines name ss) left depth before within fits few fine = marks-fine _ 3 depth left within (between-fine _ ss left depth within fits (and (plain depth left within) fine))
  written-fine _ (Written.SetMode lines name k family mode sets) left depth before within fits few fine =
      marks-fine _ 3 depth left within (opened Flat left depth within fits (λ inside deeper _. marks-fine _ 7 (suc depth) inside deeper (and (plain depth left within) fine)))
  written-fine _ (Written.Call lines name ss) left depth before within fits few fine = and (plain depth left within) (between-fine _ ss left depth within fits (and (plain depth left within) fine))
  written-fine _ (Written.Print lines l) left depth before within fits few fine = marks-fine _ 3 depth left within (items-fine _ l left depth within fits (and (plain depth left within) fine))
  written-fine _ (Written.Return lines s) left depth before within fits few fine = and (plain depth left within) (own-fine _ s left depth within fits (and (plain depth left within) fine))
  written-fine _ (Written.If line b) left depth before within fits few fine = and (plain depth left within) (branch-fine _ b left depth before within fits few fine)
  written-fine _ (Written.For lines first test step body) left depth before within fits few fine =
      and (plain depth left within) (opened (λ inside. SimpleFits first inside × IsSmall test inside × AssignmentFits step inside) left depth within fits.0 (λ inside deeper parts.
      let here = plain (suc depth) inside deeper in
      (and here (simple-fine _ first inside (suc depth) deeper parts.0 (and here (own-fine _ test inside (suc depth) deeper parts.1 (and here
      (assignment-fine _ step inside (suc depth) deeper parts.2 (and here (block-fine _ body left depth before within fits.1 few fine))))))))))

  branch-fine : (rest : Marks) (b : Branch) (left depth before : ℕ) → depth + left ≡ 64 → BranchFits b left → before + branch_instances b ≤ 1024 → AllFine rest → AllFine (branch_marks b depth before rest)
  branch-fine _ (Branch.Test lines test then_block other) left depth before within fits few fine =
      inside-fine _ test left depth within fits.0 (block-fine _ then_block left depth before within fits.1 (omega arith)
      (otherwise-fine _ other left depth (before + block_instances then_block) within fits.2 (omega arith) fine))

  otherwise-fine : (rest : Marks) (o : Otherwise) (left depth before : ℕ) → depth + left ≡ 64 → OtherwiseFits o left → before + otherwise_instances o ≤ 1024 → AllFine rest → AllFine (otherwise_marks o depth before rest)
  otherwise-fine _ Otherwise.Nothing left depth before within fits few fine = fine
  otherwise-fine _ (Otherwise.Else line b) left depth before within fits few fine = and (plain depth left within) (block-fine _ b left depth before within fits few fine)
  otherwise-fine _ (Otherwise.ElseIf lines b) left depth before within fits few fine =
      and (plain depth left within) (opened (BranchFits b) left depth within fits (λ inside deeper fits'. and (plain (suc depth) inside deeper) (branch-fine _ b inside (suc depth) before deeper fits' few fine)))

  block-fine : (rest : Marks) (b : Block) (left depth before : ℕ) → depth + left ≡ 64 → BlockFits b left → before + block_instances b ≤ 1024 → AllFine rest → AllFine (block_marks b depth before rest)
  block-fine _ (Block.Braces lines ss) left depth before within fits few fine = opened (StatementsFit ss) left depth within fits (λ inside deeper fit.
      and (plain (suc depth) inside deeper) (statements-fine _ ss inside (suc depth) before deeper fit few (and (plain (suc depth) inside deeper) fine)))

  statements-fine : (rest : Marks) (ss : Statements) (left depth before : ℕ) → depth + left ≡ 64 → StatementsFit ss left → before + instances_in ss ≤ 1024 → AllFine rest → AllFine (statements_marks ss depth before rest)
  statements-fine _ Statements.Done left depth before within fits few fine = fine
  statements-fine _ (Statements.Then w ss) left depth before within fits few fine =
      written-fine _ w left depth before within fits.0 (omega arith) (statements-fine _ ss left depth (before + written_instances w) within fits.1 (omega arith) fine)

-- ---- functions and programs

parameter-fine : (rest : Marks) (number : ℕ) (a : Parameter) → number ≤ 64 → AllFine rest → AllFine (parameter_marks number a rest)
parameter-fine _ number (Parameter.ScalarParameter lines ty name) few fine = and (counts 1 63 Parameters number refl few) (marks-fine _ 1 1 63 refl fine)
parameter-fine _ number (Parameter.IndexParameter lines k meant name) few fine = and (counts 1 63 Parameters number refl few) (marks-fine _ 3 1 63 refl fine)
parameter-fine _ number (Parameter.ViewParameter lines k meant ty name) few fine = and (counts 1 63 Parameters number refl few) (marks-fine _ 6 1 63 refl fine)
parameter-fine _ number (Parameter.ConstParameter line lines k meant ty name) few fine = and (counts 1 63 Parameters number refl few) (marks-fine _ 7 1 63 refl fine)

parameters-fine : (rest : Marks) (number : ℕ) (l : List (Parameter × ℕ)) → number + length l ≤ 65 → AllFine rest → AllFine (parameters_marks number l rest)
parameters-fine _ number [] few fine = fine
parameters-fine _ number (a ∷ []) few fine = parameter-fine _ number a.0 (omega arith) fine
parameters-fine _ number (a ∷ b ∷ l) few fine = parameter-fine _ number a.0 (omega arith) (and (plain 1 63 refl) (parameters-fine _ (suc number) (b ∷ l) (omega arith) fine))

definitions-fine : (number before : ℕ) (l : Spelling) → number + length l ≤ 1025 → before + instances_of l ≤ 1024 → each DefinitionFits l → AllFine (definitions_marks number before l)
definitions-fine number before [] few most fits = Here
definitions-fine number before (d ∷ l) few most fits =
    let later = definitions-fine (suc number) (before + block_instances d.body) l (omega arith) (omega arith) fits.1 in
    (and (counts 0 64 Functions number refl (omega arith)) (and (plain 0 64 refl) (and (plain 1 63 refl)
    (parameters-fine _ 1 d.params (omega (arith, fits.0.0)) (and (plain 1 63 refl) (block-fine _ d.body 64 0 before refl fits.0.1 (omega arith) later))))))

pub program-fine : (l : Spelling) → KeepsLimits l → AllFine (marks_in l)
program-fine l keeps = definitions-fine 1 0 l (omega (arith, keeps.functions)) (omega (arith, keeps.instances)) keeps.each_fits

-- ---- so nothing is refused

not-first : (refusal : Refusal) (mark : Mark) → Fine mark → First refusal mark → ⊥
not-first _ mark fine (TooDeep _ over) = omega (arith, fine.depth)
not-first _ mark fine (OneTooMany _ what number _ is over) = let few = subst CountFits is fine.count in omega (arith, few)

left-fine : (mark : Mark) (behind from : Marks) → Passes (mark ∷ behind) from → AllFine from → Fine mark
left-fine mark behind _ Here (Next _ _ fine _) = fine
left-fine mark behind _ (Next here more _ passes) (Next _ _ _ others) = left-fine mark behind more passes others

pub goes : {A : Type 0} {o o' : Outcome A} {rest from : Marks} → AllFine from → Judged o o' rest from → o ≡ o'
goes fine (Goes is passes) = is
goes {from = from} fine (Halts refusal mark behind is passes first) = absurd (not-first refusal mark (left-fine mark behind from passes fine) first)
