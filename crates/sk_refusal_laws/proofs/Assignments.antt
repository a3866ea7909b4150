-- What is read as values, targets, assignments and declarations is the same with both lists.
use Rattle.std.proofs.Common.{ℕ, true, List, Option, Some, None}
use Rattle.sk_base.specs.declared.number.Op.{Op}
use Rattle.sk_base.specs.declared.number.Ty.{Ty}
use Rattle.sk_grammar.specs.Signs.{step_of}
use Rattle.sk_refusals.specs.declared.refusal.Refusal.TheVariants.{Syntax}
use Rattle.sk_tokens.specs.declared.token.Sign.TheVariants as sign
use Rattle.sk_tree.specs.declared.tree.What.{What}
use Rattle.sk_tree.specs.declared.tree.What.TheVariants as what
use Rattle.sk_reading.specs.declared.next.Next.{Next}
use Rattle.sk_reading.specs.declared.next.Next.TheVariants as next
use Rattle.sk_reading.specs.declared.reach.Reach.{Reach}
use Rattle.sk_reading.specs.declared.reach.Reach.TheVariants.{Whole}
use Rattle.sk_reading.specs.declared.keyword.Keyword.TheVariants as key
use Rattle.sk_reading.specs.declared.update.Update.{Update}
use Rattle.sk_reading.specs.declared.update.Update.TheVariants.{Value, Joined, Step}
use Rattle.sk_reading.specs.declared.target.Target.{Target}
use Rattle.sk_reading.specs.declared.target.Target.TheVariants.{Variable, Element, Bracketed}
use Rattle.sk_reading.specs.Reading.{Parser, ◌>>=◌, pure, expect, name}
use Rattle.sk_reading.specs.ReadingExpressions.{below}
use Rattle.sk_reading.specs.ReadingAssignments.{value, value_inside, places, assigned, update_next, element, bracketed, target_by, target, joined_value, stepped, update_by, update, step_by, assignment_by, assignment, declaration, simple_by, simple}
use Rattle.sk_refusal_laws.proofs.Local.{Parting, Local, step, local-pure, local-refuse, local-peek, local-take, local-by}
use Rattle.sk_refusal_laws.proofs.Steps.{local-expect, local-name, local-ty, local-fresh, local-opened}
use Rattle.sk_refusal_laws.proofs.Operands.{local-arguments}
use Rattle.sk_refusal_laws.proofs.Operators.{local-below, local-expression}

pub local-value : {w : Parting} (left : ℕ) (reach : Reach) → Local w (value left reach)
unfolding value
local-value left reach = step local-fresh (λ _. local-expression left reach)

pub local-value_inside : {w : Parting} (left : ℕ) → Local w (value_inside left)
unfolding value_inside
local-value_inside left = step local-fresh (λ _. local-below left Whole)

pub local-places : {w : Parting} (left : ℕ) → Local w (places left)
unfolding places
local-places left = local-arguments true (below left Whole) (local-below left Whole)

local-element : {w : Parting} (left : ℕ) (first : List ℕ) → Local w (element left first)
unfolding element
local-element left first =
    step (local-opened left) (λ _. step local-take (λ _. step (local-places left) (λ found. step (local-expect sign.CloseParen) (λ _. local-pure (Element first found)))))

local-bracketed : {w : Parting} (left : ℕ) (first : List ℕ) → Local w (bracketed left first)
unfolding bracketed
local-bracketed left first =
    step (local-opened left) (λ _. step local-take (λ _. step (local-value_inside left) (λ place. step (local-expect sign.CloseBracket) (λ _. local-pure (Bracketed first place)))))

pub local-target_by : {w : Parting} (left : ℕ) (first : List ℕ) (nx : Next) → Local w (target_by left first nx)
local-target_by left first (next.Sign sign.OpenParen) = local-element left first
local-target_by left first (next.Sign sign.OpenBracket) = local-bracketed left first
local-target_by left first (next.Sign s) = local-pure (Variable first)
local-target_by left first other = local-pure (Variable first)

pub local-target : {w : Parting} (left : ℕ) → Local w (target left)
unfolding target
local-target left = step local-name (λ first. step local-peek (λ kind. local-target_by left first kind))

local-joined_value : {w : Parting} (left : ℕ) (to : Target) (with_op : Op) → Local w (joined_value left to with_op)
unfolding joined_value
local-joined_value left to with_op = step (local-value left Whole) (λ more. local-pure _)

local-update_by : {w : Parting} (left : ℕ) (to : Target) (how : Option Update) → Local w (update_by left to how)
local-update_by left to (Some Value) = step local-take (λ _. step (local-value left Whole) (λ new. local-pure (assigned to new)))
local-update_by left to (Some (Joined with_op)) = step local-take (λ _. local-joined_value left to with_op)
local-update_by left to (Some (Step with_op)) = step local-take (λ _. local-pure (stepped left to with_op))
local-update_by left to None = local-refuse Syntax

pub local-update : {w : Parting} (left : ℕ) (to : Target) → Local w (update left to)
unfolding update
local-update left to = local-by update_next (update_by left to) (local-update_by left to)

local-step_by : {w : Parting} (left : ℕ) (op : Option Op) → Local w (step_by left op)
local-step_by left (Some with_op) = step local-take (λ _. step (local-target left) (λ to. local-pure (stepped left to with_op)))
local-step_by left None = local-refuse Syntax

local-assignment_by : {w : Parting} (left : ℕ) (nx : Next) → Local w (assignment_by left nx)
local-assignment_by left next.Name = step (local-target left) (local-update left)
local-assignment_by left (next.Sign s) = local-step_by left (step_of s)
local-assignment_by left other = local-refuse Syntax

pub local-assignment : {w : Parting} (left : ℕ) → Local w (assignment left)
unfolding assignment
local-assignment left = step local-peek (λ nx. local-assignment_by left nx)

abbrev pub declared_behind : ℕ → Ty → Parser What
declared_behind left of = name >>= (λ declared. expect sign.Eq >>= (λ _. value left Whole >>= (λ first. pure (what.Declare of declared first))))

pub local-declared_behind : {w : Parting} (left : ℕ) (of : Ty) → Local w (declared_behind left of)
local-declared_behind left of =
    step local-name (λ declared. step (local-expect sign.Eq) (λ _. step (local-value left Whole) (λ first. local-pure (what.Declare of declared first))))

pub local-declaration : {w : Parting} (left : ℕ) → Local w (declaration left)
unfolding declaration
local-declaration left = step local-ty (λ of. local-declared_behind left of)

local-simple_by : {w : Parting} (left : ℕ) (nx : Next) → Local w (simple_by left nx)
local-simple_by left (next.Keyword key.Int) = local-declaration left
local-simple_by left (next.Keyword key.Long) = local-declaration left
local-simple_by left (next.Keyword k) = local-assignment left
local-simple_by left other = local-assignment left

pub local-simple : {w : Parting} (left : ℕ) → Local w (simple left)
unfolding simple
local-simple left = step local-peek (λ nx. local-simple_by left nx)
