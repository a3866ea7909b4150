-- A statement is formed as a text has it where the numbers among its tokens fit their types.
use Rattle.std.proofs.Common.{◌≡◌, ◌∙◌, ℕ, ℤ, pos, Bool, true, false, List, [], ◌∷◌, map, Some, if◌then◌else◌, refl, sym, ap, subst}
use Rattle.std.proofs.lemmas.Bool.{and_from}
use Rattle.std.specs.Prelude.{◌&&◌}
use Rattle.std.specs.List.{list_all}
use Rattle.sk_base.specs.declared.number.Op.{Op}
use Rattle.sk_base.specs.declared.number.Ty.{Ty}
use Rattle.sk_base.specs.declared.number.Ty.TheVariants.{Int}
use Rattle.sk_grammar.specs.ExpressionSpelling.{in_front, tree_in, trees_in, sign_at, with_commas, in_sequence}
use Rattle.sk_grammar.specs.Signs.{Assigns, Plainly, Joining, meant_by, value_words, mode_words, Family}
use Rattle.sk_grammar.specs.StatementSpelling.{Target, Assignment, Simple, Printed, Written, Branch, Otherwise, Block, Statements, Numbers, target_in_front, assignment_in_front, simple_in_front, printed_in_front, shifted_in_front, numbers_in_front, a_number, a_name, written_in_front, branch_in_front, otherwise_in_front, block_in_front, statements_in_front, old_value, new_value, assigned, one, assignment_tree, simple_tree, simple_line, printed_tree, at_line, written_tree, branch_tree, otherwise_tree, block_tree, statements_tree, IsLawfulStatement, IsLawfulBranch, IsLawfulOtherwise, IsLawfulBlock, AreLawfulStatements}
use Rattle.sk_names.specs.Bytes.{same_bytes}
use Rattle.sk_plain.proofs.Truths.{some_same}
use Rattle.sk_tokens.specs.declared.token.Sign.TheVariants as sign
use Rattle.sk_tokens.specs.declared.token.Token.{Token}
use Rattle.sk_tree.specs.FoldLaws.{folds-Number, folds-Name, folds-Binary}
use Rattle.sk_tree.specs.declared.tree.Expr.{Expr}
use Rattle.sk_tree.specs.declared.tree.Expr.TheVariants as tree
use Rattle.sk_tree.specs.declared.tree.Setting.{Setting}
use Rattle.sk_tree.specs.declared.tree.Setting.TheVariants.{Overlap}
use Rattle.sk_tree.specs.declared.tree.What.TheVariants as what
use Rattle.sk_typed_laws.proofs.Shapes.{shape-Declare, shape-Assign, shape-Poke, shape-Make, shape-Take, shape-Instance, shape-Set, shape-Call, shape-Print, shape-If, shape-For, shape-Return}
use Rattle.sk_typed_laws.proofs.WrittenExpressions.{expression_sized, arguments_sized, applied_sized, one_sized, behind_commas}
use Rattle.sk_typed_laws.specs.Forms.{is_sized, sized_step, item_sized, Formed, formed_of, all_sized, AreSized}
use Rattle.sk_typing.specs.TypingInstances.{setting_values}

-- ---- declarations and assignments

-- a `for` may begin with it
record IsLight (form : Formed) : Type 0 where
  sized : form.sized ≡ true
  is_light : form.is_light ≡ true

-- it may be the step of a `for`
record IsStep (form : Formed) : Type 0 where
  sized : form.sized ≡ true
  is_light : form.is_light ≡ true
  is_step : form.is_step ≡ true

abbrev places_of : Target → List Expr
places_of (Target.Variable line name) = []
places_of (Target.Element at name places) = trees_in places
places_of (Target.Bracketed at name place) = tree_in place ∷ []

target_sized : (target : Target) (r : List Token) → AreSized (target_in_front target r) → (list_all is_sized (places_of target) ≡ true) × AreSized r
target_sized (Target.Variable line name) r h = (refl, h.1)
target_sized (Target.Element at name places) r h = let a = arguments_sized places (sign_at sign.CloseParen (at 2) ∷ r) h.1.1 in (a.0, a.1.1)
target_sized (Target.Bracketed at name place) r h =
    let a = expression_sized place (sign_at sign.CloseBracket (at 2) ∷ r) h.1.1 in (one_sized (tree_in place) a.0, a.1.1)

old_sized : (target : Target) → list_all is_sized (places_of target) ≡ true → is_sized (old_value target) ≡ true
old_sized (Target.Variable line name) h = folds-Name sized_step name
old_sized (Target.Element at name places) h = applied_sized name (trees_in places) h
old_sized (Target.Bracketed at name place) h = applied_sized name (tree_in place ∷ []) h

binary_sized : (op : Op) (left right : Expr) → is_sized left ≡ true → is_sized right ≡ true → is_sized (tree.Binary op left right) ≡ true
binary_sized op left right h g = folds-Binary sized_step op left right ∙ and_from (is_sized left) (is_sized right) h g

new_sized : (how : Assigns) (old value : Expr) → is_sized old ≡ true → is_sized value ≡ true → is_sized (new_value how old value) ≡ true
new_sized Plainly old value h g = g
new_sized (Joining op) old value h g = binary_sized op old value h g

one_is_sized : is_sized one ≡ true
one_is_sized = folds-Number sized_step Int (pos 1)

poke_step : (line : ℕ) (name : List ℕ) (places : List Expr) (value : Expr) → list_all is_sized places ≡ true → is_sized value ≡ true → IsStep (formed_of (at_line line (what.Poke name places value)))
poke_step line name places value h g =
    subst IsStep (sym (shape-Poke line name places value))
    (record { sized = and_from (list_all is_sized places) (is_sized value) h g; is_light = refl; is_step = refl })

assigned_step : (target : Target) (value : Expr) (line : ℕ) → list_all is_sized (places_of target) ≡ true → is_sized value ≡ true → IsStep (formed_of (at_line line (assigned target value)))
assigned_step (Target.Variable l name) value line h g =
    subst IsStep (sym (shape-Assign line name value)) (record { sized = g; is_light = refl; is_step = refl })
assigned_step (Target.Element at name places) value line h g = poke_step line name (trees_in places) value h g
assigned_step (Target.Bracketed at name place) value line h g = poke_step line name (tree_in place ∷ []) value h g

assignment_step : (assignment : Assignment) (line : ℕ) (r : List Token) → AreSized (assignment_in_front assignment r)
    → IsStep (formed_of (at_line line (assignment_tree assignment))) × AreSized r
assignment_step (Assignment.Assign target l s how value) line r h =
    let a = target_sized target (sign_at s l ∷ in_front value r) h in
    let b = expression_sized value r a.1.1 in
    (assigned_step target (new_value how (old_value target) (tree_in value)) line a.0 (new_sized how (old_value target) (tree_in value) (old_sized target a.0) b.0), b.1)
assignment_step (Assignment.StepAfter target l s op) line r h =
    let a = target_sized target (sign_at s l ∷ r) h in
    (assigned_step target (tree.Binary op (old_value target) one) line a.0 (binary_sized op (old_value target) one (old_sized target a.0) one_is_sized), a.1.1)
assignment_step (Assignment.StepBefore l s op target) line r h =
    let a = target_sized target r h.1 in
    (assigned_step target (tree.Binary op (old_value target) one) line a.0 (binary_sized op (old_value target) one (old_sized target a.0) one_is_sized), a.1)

simple_light : (simple : Simple) (line : ℕ) (r : List Token) → AreSized (simple_in_front simple r) → IsLight (formed_of (at_line line (simple_tree simple))) × AreSized r
simple_light (Simple.Declare at ty name value) line r h =
    let a = expression_sized value r h.1.1.1 in
    (subst IsLight (sym (shape-Declare line ty name (tree_in value))) (record { sized = a.0; is_light = refl }), a.1)
simple_light (Simple.Assigning assignment) line r h =
    let a = assignment_step assignment line r h in (record { sized = a.0.sized; is_light = a.0.is_light }, a.1)

-- ---- settings

abbrev HoldsFor : {A : Type 0} → (A → Type 0) → List (List ℕ × A) → Type 0
HoldsFor P [] = Unit {0}
HoldsFor P (entry ∷ entries) = P entry.1 × HoldsFor P entries

meant_holds : {A : Type 0} (P : A → Type 0) (entries : List (List ℕ × A)) (word : List ℕ) (x : A) → HoldsFor P entries → meant_by entries word ≡ Some x → P x
meant_holds P [] word x h e = let no : ⊥ = cc in absurd no
meant_holds P (entry ∷ entries) word x h e = by_test (same_bytes entry.0 word) e (meant_holds P entries word x h.1)
  where
    by_test : (b : Bool) → (if b then Some entry.1 else meant_by entries word) ≡ Some x → (meant_by entries word ≡ Some x → P x) → P x
    by_test true e later = subst P (some_same entry.1 x e) h.0
    by_test false e later = later e

abbrev TakesOne : (Expr → Setting) → Type 0
TakesOne sets = (value : Expr) → setting_values (sets value) ≡ value ∷ []

abbrev TakesNone : Setting → Type 0
TakesNone setting = setting_values setting ≡ []

abbrev IsFamilyOfNone : Family → Type 0
IsFamilyOfNone family = HoldsFor TakesNone family.modes

value_takes : (word : List ℕ) (sets : Expr → Setting) → meant_by value_words word ≡ Some sets → TakesOne sets
value_takes word sets e = meant_holds TakesOne value_words word sets (λ value. refl, (λ value. refl, tt)) e

mode_takes : (word mode : List ℕ) (family : Family) (setting : Setting) → meant_by mode_words word ≡ Some family → meant_by family.modes mode ≡ Some setting → TakesNone setting
mode_takes word mode family setting e f =
    meant_holds TakesNone family.modes mode setting
    (meant_holds IsFamilyOfNone mode_words word family ((refl, (refl, tt)), ((refl, (refl, tt)), ((refl, (refl, (refl, tt))), tt))) e) f

-- ---- the other statements

number_behind : (x : ℕ × Ty × ℤ) (r : List Token) → AreSized (a_number x r) → AreSized r
number_behind x r h = h.1

name_behind : (x : ℕ × List ℕ) (r : List Token) → AreSized (a_name x r) → AreSized r
name_behind x r h = h.1

numbers_behind : (numbers : Numbers) (r : List Token) → AreSized (numbers_in_front numbers r) → AreSized r
numbers_behind Numbers.NoNumbers r h = h
numbers_behind (Numbers.Between at numbers) r h = (behind_commas a_number number_behind numbers (sign_at sign.Gt (at 1) ∷ r) h.1).1

printed_sized : (printed : Printed) (r : List Token) → AreSized (printed_in_front printed r) → (item_sized (printed_tree printed) ≡ true) × AreSized r
printed_sized (Printed.PrintedText line text) r h = (refl, h.1)
printed_sized (Printed.PrintedEnd at) r h = (refl, h.1.1.1)
printed_sized (Printed.PrintedValue value) r h = expression_sized value r h

items_sized : (items : List (ℕ × Printed)) (r : List Token) → AreSized (in_sequence shifted_in_front items r)
    → (list_all item_sized (map (λ printed. printed_tree printed.1) items) ≡ true) × AreSized r
items_sized [] r h = (refl, h)
items_sized (item ∷ items) r h =
    let a = printed_sized item.1 (in_sequence shifted_in_front items r) h.1 in
    let b = items_sized items r a.1 in
    (and_from (item_sized (printed_tree item.1)) (list_all item_sized (map (λ (printed : ℕ × Printed). printed_tree printed.1) items)) a.0 b.0, b.1)

abbrev IsSizedForm : Formed → Type 0
IsSizedForm form = form.sized ≡ true

loop_sized : (first step : Formed) (test body : Bool) → IsLight first → test ≡ true → IsStep step → body ≡ true
    → (first.is_light && step.is_step && first.sized && test && step.sized && body) ≡ true
loop_sized first step test body f t s b =
    and_from (first.is_light && step.is_step && first.sized && test && step.sized) body
    (and_from (first.is_light && step.is_step && first.sized && test) step.sized
    (and_from (first.is_light && step.is_step && first.sized) test
    (and_from (first.is_light && step.is_step) first.sized (and_from first.is_light step.is_step f.is_light s.is_step) f.sized) t) s.sized) b

mutual
  pub written_sized : (w : Written) (r : List Token) → IsLawfulStatement w → AreSized (written_in_front w r) → IsSizedForm (formed_of (written_tree w)) × AreSized r
  written_sized (Written.Simply simple line) r lawful h =
      let a = simple_light simple (simple_line simple) (sign_at sign.Semi line ∷ r) h in (a.0.sized, a.1.1)
  written_sized (Written.Make at kind sizes ty name arguments) r lawful h =
      let a = arguments_sized arguments (sign_at sign.CloseParen (at 8) ∷ sign_at sign.Semi (at 9) ∷ r) h.1.1.1.1.1.1.1.1 in
      (subst IsSizedForm (sym (shape-Make (at 0) sizes ty name (trees_in arguments))) a.0, a.1.1.1)
  written_sized (Written.Take at kind sizes ty name input) r lawful h =
      (subst IsSizedForm (sym (shape-Take (at 0) sizes ty name input)) refl, h.1.1.1.1.1.1.1.1.1.1.1.1.1)
  written_sized (Written.Instantiate at name kind skeleton numbers functions) r lawful h =
      let close : List Token = sign_at sign.CloseParen (at 7) ∷ sign_at sign.Semi (at 8) ∷ r in
      let a = numbers_behind numbers (sign_at sign.OpenParen (at 6) ∷ with_commas a_name functions close) h.1.1.1.1.1.1 in
      let b = behind_commas a_name name_behind functions close a.1 in
      (subst IsSizedForm (sym (shape-Instance (at 0) _)) refl, b.1.1)
  written_sized (Written.SetValue at name setting sets value) r lawful h =
      let a = expression_sized value (sign_at sign.CloseParen (at 4) ∷ sign_at sign.Semi (at 5) ∷ r) h.1.1.1.1 in
      let values = value_takes setting sets lawful.1 (tree_in value) in
      (subst IsSizedForm (sym (shape-Set (at 0) name (sets (tree_in value)))) (ap (λ l. list_all is_sized l) values ∙ one_sized (tree_in value) a.0), a.1.1.1)
  written_sized (Written.SetOverlap at name arguments) r lawful h =
      let a = arguments_sized arguments (sign_at sign.CloseParen (at 4) ∷ sign_at sign.Semi (at 5) ∷ r) h.1.1.1.1 in
      (subst IsSizedForm (sym (shape-Set (at 0) name (Overlap (trees_in arguments)))) a.0, a.1.1.1)
  written_sized (Written.SetMode at name setting family mode sets) r lawful h =
      let values = mode_takes setting mode family sets lawful.1 lawful.2 in
      (subst IsSizedForm (sym (shape-Set (at 0) name sets)) (ap (λ l. list_all is_sized l) values), h.1.1.1.1.1.1.1.1.1.1.1)
  written_sized (Written.Call at name arguments) r lawful h =
      let a = arguments_sized arguments (sign_at sign.CloseParen (at 2) ∷ sign_at sign.Semi (at 3) ∷ r) h.1.1 in
      (subst IsSizedForm (sym (shape-Call (at 0) name (trees_in arguments))) a.0, a.1.1.1)
  written_sized (Written.Print at items) r lawful h =
      let a = items_sized items (sign_at sign.Semi (at 3) ∷ r) h.1.1.1 in
      (subst IsSizedForm (sym (shape-Print (at 0) (map (λ (printed : ℕ × Printed). printed_tree printed.1) items))) a.0, a.1.1)
  written_sized (Written.Return at value) r lawful h =
      let a = expression_sized value (sign_at sign.Semi (at 1) ∷ r) h.1 in
      (subst IsSizedForm (sym (shape-Return (at 0) (tree_in value))) a.0, a.1.1)
  written_sized (Written.If line branch) r lawful h = branch_sized branch line r lawful h.1
  written_sized (Written.For at first test step body) r lawful h =
      let rest : List Token = assignment_in_front step (sign_at sign.CloseParen (at 4) ∷ block_in_front body r) in
      let a = simple_light first (at 0) (sign_at sign.Semi (at 2) ∷ in_front test (sign_at sign.Semi (at 3) ∷ rest)) h.1.1 in
      let b = expression_sized test (sign_at sign.Semi (at 3) ∷ rest) a.1.1 in
      let c = assignment_step step (at 0) (sign_at sign.CloseParen (at 4) ∷ block_in_front body r) b.1.1 in
      let d = block_sized body r lawful.3 c.1.1 in (
        subst IsSizedForm (sym (shape-For (at 0) (at_line (at 0) (simple_tree first)) (tree_in test) (at_line (at 0) (assignment_tree step)) (block_tree body)))
            (loop_sized (formed_of (at_line (at 0) (simple_tree first))) (formed_of (at_line (at 0) (assignment_tree step))) (is_sized (tree_in test)) (all_sized (map formed_of (block_tree body))) a.0 b.0 c.0 d.0),
        d.1,
      )

  branch_sized : (branch : Branch) (line : ℕ) (r : List Token) → IsLawfulBranch branch → AreSized (branch_in_front branch r) → IsSizedForm (formed_of (at_line line (branch_tree branch))) × AreSized r
  branch_sized (Branch.Test at test block otherwise) line r lawful h =
      let rest : List Token = otherwise_in_front otherwise r in
      let a = expression_sized test (sign_at sign.CloseParen (at 1) ∷ block_in_front block rest) h.1 in
      let b = block_sized block rest lawful.1 a.1.1 in
      let c = otherwise_sized otherwise r lawful.2 b.1 in
      let t : Bool = is_sized (tree_in test) in
      let o : Bool = all_sized (map formed_of (block_tree block)) in (
        subst IsSizedForm (sym (shape-If line (tree_in test) (block_tree block) (otherwise_tree otherwise)))
            (and_from (t && o) (all_sized (map formed_of (otherwise_tree otherwise))) (and_from t o a.0 b.0) c.0),
        c.1,
      )

  otherwise_sized : (otherwise : Otherwise) (r : List Token) → IsLawfulOtherwise otherwise → AreSized (otherwise_in_front otherwise r)
      → (all_sized (map formed_of (otherwise_tree otherwise)) ≡ true) × AreSized r
  otherwise_sized Otherwise.Nothing r lawful h = (refl, h)
  otherwise_sized (Otherwise.Else line block) r lawful h = block_sized block r lawful h.1
  otherwise_sized (Otherwise.ElseIf at branch) r lawful h =
      let a = branch_sized branch (at 1) r lawful h.1.1 in
      (and_from (formed_of (at_line (at 1) (branch_tree branch))).sized true a.0 refl, a.1)

  pub block_sized : (block : Block) (r : List Token) → IsLawfulBlock block → AreSized (block_in_front block r) → (all_sized (map formed_of (block_tree block)) ≡ true) × AreSized r
  block_sized (Block.Braces at statements) r lawful h =
      let a = statements_sized statements (sign_at sign.CloseBrace (at 1) ∷ r) lawful h.1 in (a.0, a.1.1)

  statements_sized : (statements : Statements) (r : List Token) → AreLawfulStatements statements → AreSized (statements_in_front statements r)
      → (all_sized (map formed_of (statements_tree statements)) ≡ true) × AreSized r
  statements_sized Statements.Done r lawful h = (refl, h)
  statements_sized (Statements.Then statement statements) r lawful h =
      let a = written_sized statement (statements_in_front statements r) lawful.0 h in
      let b = statements_sized statements r lawful.1 a.1 in
      (and_from (formed_of (written_tree statement)).sized (all_sized (map formed_of (statements_tree statements))) a.0 b.0, b.1)
