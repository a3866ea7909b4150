-- The target that a spelled one is, and that it stands for the same.
use Rattle.std.proofs.Common.{◌≡◌, List, refl}
use Rattle.sk_grammar.specs.ExpressionSpelling.{tree_in, trees_in}
use Rattle.sk_grammar.specs.StatementSpelling as spelling
use Rattle.sk_tokens.specs.declared.token.Token.{Token}
use Rattle.sk_tree.specs.declared.tree.Expr.{Expr}
use Rattle.sk_reading.specs.declared.target.Target.{Target}
use Rattle.sk_reading.specs.declared.target.Target.TheVariants.{Variable, Element, Bracketed}
use Rattle.sk_reading.specs.Reading.{line_of}
use Rattle.sk_reading.specs.ReadingAssignments as reading

abbrev pub target_value : spelling.Target → Target
target_value (spelling.Target.Variable line w) = Variable w
target_value (spelling.Target.Element lines w ss) = Element w (trees_in ss)
target_value (spelling.Target.Bracketed lines w s) = Bracketed w (tree_in s)

pub assigned-same : (t : spelling.Target) (v : Expr) → reading.assigned (target_value t) v ≡ spelling.assigned t v
assigned-same (spelling.Target.Variable line w) v = refl
assigned-same (spelling.Target.Element lines w ss) v = refl
assigned-same (spelling.Target.Bracketed lines w s) v = refl

pub old-same : (t : spelling.Target) → reading.old_value (target_value t) ≡ spelling.old_value t
old-same (spelling.Target.Variable line w) = refl
old-same (spelling.Target.Element lines w ss) = refl
old-same (spelling.Target.Bracketed lines w s) = refl

pub target-line : (t : spelling.Target) (r : List Token) → line_of (spelling.target_in_front t r) ≡ spelling.target_line t
target-line (spelling.Target.Variable line w) r = refl
target-line (spelling.Target.Element lines w ss) r = refl
target-line (spelling.Target.Bracketed lines w s) r = refl
