-- Statements declare names before those in scope, and blocks leave them again.
use Rattle.std.proofs.Common.{◌≡◌, ℕ, ◌-◌, List, [], ◌∷◌, ◌++◌, length, drop, map, Option, Some, None, refl, sym, ap, ◌∙◌, subst, append_assoc, length-append, arith}
use Rattle.sk_names.specs.Bindings.{bound_to}
use Rattle.sk_tree.specs.declared.tree.Statement.{Statement, fold_out-Statement}
use Rattle.sk_tree.specs.declared.tree.What.{What, What-F, out-What, map-What, fold_out-What}
use Rattle.sk_tree.specs.declared.tree.What.TheOpen as what
use Rattle.sk_scheme.specs.Scheme.{Slot, Compiled, Emitting, Emitted, Within, Standing, emitting_of, emitting_step, assigned_code, all_emitted, behind, compiled_of}
use Rattle.sk_scheme.specs.SchemeLaws.{emitting_what}
use Rattle.std.proofs.Math.Seq.{drop-append_seam}

abbrev Scope : Type 0
Scope = List (List ℕ × Slot)

-- the names of a scope, with further ones before them
pub record Extends (outer inner : Scope) : Type 0 where
  pub declared : Scope
  pub is : inner ≡ declared ++ outer

pub extends_same : (scope : Scope) → Extends scope scope
extends_same scope = record { declared = []; is = refl }

-- an assignment declares no name
pub assigned_scope : (slot : Option Slot) (part : Compiled) (within : Within) (standing : Standing) → (assigned_code slot part within standing).scope ≡ standing.scope
assigned_scope (Some slot) part within standing = refl
assigned_scope None part within standing = refl

-- nor does it take a slot
pub assigned_slots : (slot : Option Slot) (part : Compiled) (within : Within) (standing : Standing) → (assigned_code slot part within standing).slots ≡ standing.slots
assigned_slots (Some slot) part within standing = refl
assigned_slots None part within standing = refl

step_extends : (level : What-F Emitting Emitting) (within : Within) (standing : Standing)
    → Extends standing.scope (emitting_step level within standing).scope
step_extends (what.Declare ty name expr) within standing = record { declared = _ ∷ []; is = refl }
step_extends (what.Assign name expr) within standing =
    record { declared = []; is = assigned_scope (bound_to name standing.scope) (compiled_of expr) within standing }
step_extends (what.Poke name places expr) within standing = extends_same standing.scope
step_extends (what.Make kind ty name arguments) within standing = extends_same standing.scope
step_extends (what.Take kind ty name text) within standing = extends_same standing.scope
step_extends (what.Instance instance) within standing = extends_same standing.scope
step_extends (what.Set name setting) within standing = extends_same standing.scope
step_extends (what.Call name arguments) within standing = extends_same standing.scope
step_extends (what.Print items) within standing = extends_same standing.scope
step_extends (what.If test one []) within standing = extends_same standing.scope
step_extends (what.If test one (other ∷ others)) within standing = extends_same standing.scope
step_extends (what.For first test step body) within standing = extends_same standing.scope
step_extends (what.Return expr) within standing = extends_same standing.scope

what_extends : (w : What) (within : Within) (standing : Standing) → Extends standing.scope (emitting_what w within standing).scope
what_extends w within standing =
    subst (λ (e : Emitting). Extends standing.scope (e within standing).scope)
    (sym (fold_out-What Emitting Emitting emitting_step (λ statement. statement.what) w))
    (step_extends (map-What What Statement Emitting Emitting emitting_what emitting_of (out-What w)) within standing)

pub statement_extends : (s : Statement) (within : Within) (standing : Standing) → Extends standing.scope (emitting_of s within standing).scope
statement_extends s within standing =
    subst (λ (e : Emitting). Extends standing.scope (e within standing).scope)
    (sym (fold_out-Statement Emitting Emitting emitting_step (λ statement. statement.what) s))
    (what_extends s.what within standing)

pub all_extend : (ss : List Statement) (within : Within) (standing : Standing)
    → Extends standing.scope (all_emitted (map emitting_of ss) within standing).scope
all_extend [] within standing = extends_same standing.scope
all_extend (s ∷ ss) within standing =
    let one : Emitted = emitting_of s within standing in
    let first = statement_extends s within standing in
    let rest = all_extend ss within (behind standing one) in
    record {
      declared = rest.declared ++ first.declared;
      is = rest.is ∙ ap (λ scope. rest.declared ++ scope) first.is ∙ sym (append_assoc rest.declared first.declared standing.scope);
    }

-- all but the last ones, which are as many as the back
drop_front : {A : Type 0} (front back : List A) → drop (length (front ++ back) - length back) (front ++ back) ≡ back
drop_front front back =
    let n : length (front ++ back) - length back ≡ length front = omega (arith, length-append front back) in
    ap (λ k. drop k (front ++ back)) n ∙ drop-append_seam front back

-- what was declared is left again
pub left_again : (outer inner : Scope) (depth : ℕ) → Extends outer inner → depth ≡ length outer → drop (length inner - depth) inner ≡ outer
left_again outer inner depth extends is =
    ap (λ n. drop (length inner - n) inner) is
    ∙ ap (λ (scope : Scope). drop (length scope - length outer) scope) extends.is
    ∙ drop_front extends.declared outer
