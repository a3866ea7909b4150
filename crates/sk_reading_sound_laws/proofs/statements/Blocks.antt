-- What is read as statements has a lawful spelling that keeps the limits.
use Rattle.std.proofs.Common.{◌≡◌, ℕ, zero, suc, ◌+◌, ◌≤◌, Bool, true, false, cond, List, [], ◌∷◌, ◌++◌, length, codes, refl, ap, sym, subst, ◌∙◌, arith, append_assoc, append-nil}
use Rattle.sk_grammar.specs.ExpressionSpelling.{in_front, tree_in, sign_at, word}
use Rattle.sk_grammar.specs.Limits.{BranchFits, OtherwiseFits, BlockFits, StatementsFit, branch_instances, otherwise_instances, block_instances, instances_in}
use Rattle.sk_grammar.specs.StatementSpelling as form
use Rattle.sk_grammar.specs.StatementSpelling.{Written, Branch, Otherwise, Block, Statements, written_in_front, branch_in_front, otherwise_in_front, block_in_front, statements_in_front, branch_tree, otherwise_tree, block_tree, statements_tree, IsLawfulBranch, IsLawfulOtherwise, IsLawfulBlock, AreLawfulStatements, at_line}
use Rattle.sk_tokens.specs.declared.token.Sign.TheVariants as sign
use Rattle.sk_tree.specs.declared.tree.Statement.{Statement}
use Rattle.sk_tree.specs.declared.tree.What.{What}
use Rattle.sk_tree.specs.declared.tree.What.TheVariants as what
use Rattle.sk_reading.specs.declared.next.Next.{Next}
use Rattle.sk_reading.specs.declared.next.Next.TheVariants as next
use Rattle.sk_reading.specs.declared.reach.Reach.TheVariants.{Whole}
use Rattle.sk_reading.specs.declared.keyword.Keyword.TheVariants as key
use Rattle.sk_reading.specs.declared.head.Head.{Head}
use Rattle.sk_reading.specs.declared.part.Part.TheVariants as part
use Rattle.sk_reading.specs.Reading.{Place, Read, and_then, front, advance, sees, sees_keyword, expect, opened, opened_by, line_of, front_line}
use Rattle.sk_reading.specs.ReadingAssignments as assignments
use Rattle.sk_reading.specs.ReadingStatements as reading
use Rattle.sk_reading_sound_laws.proofs.Steps.{lines_of, bound, along, read-is, expect-takes, keyword-takes, sees-keyword, opens, opened_by-takes}
use Rattle.sk_reading_sound_laws.proofs.statements.Short.{IsWritten, short-sound}
use Rattle.sk_reading_sound_laws.proofs.statements.Assignments.{value-sound, inside-sound, assignment-sound, simple-sound}

pub record AreStatements (left : ℕ) (p : Place) (made : List Statement) (q : Place) : Type 0 where
  pub spelling : Statements
  pub lawful : AreLawfulStatements spelling
  pub fits : StatementsFit spelling left
  pub tokens : p.rest ≡ statements_in_front spelling q.rest
  pub is_tree : statements_tree spelling ≡ made
  pub instances : q.instances ≡ p.instances + instances_in spelling
  pub few : p.instances ≤ 1024 → q.instances ≤ 1024

pub record IsBlock (left : ℕ) (p : Place) (made : List Statement) (q : Place) : Type 0 where
  pub spelling : Block
  pub lawful : IsLawfulBlock spelling
  pub fits : BlockFits spelling left
  pub tokens : p.rest ≡ block_in_front spelling q.rest
  pub is_tree : block_tree spelling ≡ made
  pub instances : q.instances ≡ p.instances + block_instances spelling
  pub few : p.instances ≤ 1024 → q.instances ≤ 1024

-- from `if` on
pub record IsBranch (left : ℕ) (p : Place) (does : What) (q : Place) : Type 0 where
  pub line : ℕ
  pub spelling : Branch
  pub lawful : IsLawfulBranch spelling
  pub fits : BranchFits spelling left
  pub tokens : p.rest ≡ word (codes "if") line ∷ branch_in_front spelling q.rest
  pub is_tree : branch_tree spelling ≡ does
  pub instances : q.instances ≡ p.instances + branch_instances spelling
  pub few : p.instances ≤ 1024 → q.instances ≤ 1024

pub record IsOtherwise (left : ℕ) (p : Place) (made : List Statement) (q : Place) : Type 0 where
  pub spelling : Otherwise
  pub lawful : IsLawfulOtherwise spelling
  pub fits : OtherwiseFits spelling left
  pub tokens : p.rest ≡ otherwise_in_front spelling q.rest
  pub is_tree : otherwise_tree spelling ≡ made
  pub instances : q.instances ≡ p.instances + otherwise_instances spelling
  pub few : p.instances ≤ 1024 → q.instances ≤ 1024

-- the statement of an `else if`
pub record IsAlone (left : ℕ) (p : Place) (made : List Statement) (q : Place) : Type 0 where
  pub does : What
  pub branch : IsBranch left p does q
  pub is_list : at_line (line_of p.rest) does ∷ [] ≡ made

-- of what is opened
abbrev pub PartsBelow : ℕ → Type 0
PartsBelow zero = Unit {0}
PartsBelow (suc left) =
    ((p : Place) (x : List Statement × Place) → reading.part_below (suc left) part.Statements p ≡ Read x → AreStatements left p x.0 x.1)
    × ((p : Place) → front p ≡ next.Keyword key.If → (x : List Statement × Place) → reading.part_below (suc left) part.Branch p ≡ Read x → IsAlone left p x.0 x.1)

pub block-sound : (left : ℕ) → PartsBelow left → (p : Place) (x : List Statement × Place) → reading.block left (reading.part_below left) p ≡ Read x → IsBlock left p x.0 x.1
unfolding reading.block
block-sound zero inside p x h =
    let (u, open-is, h) = bound (opened_by sign.OpenBrace zero p) _ x h in
    let (deeper, is, l, opening) = opened_by-takes sign.OpenBrace zero p u open-is in absurd (cc)
block-sound (suc left) inside p x h =
    let (u, open-is, h) = bound (opened_by sign.OpenBrace (suc left) p) _ x h in
    let (deeper, is, l, opening) = opened_by-takes sign.OpenBrace (suc left) p u open-is in
    let (a, inner-is, h) = bound (reading.part_below (suc left) part.Statements u.1) _ x h in
    let s = inside.0 u.1 a inner-is in
    let (v, close-is, h) = bound (expect sign.CloseBrace a.1) _ x h in
    let (l', closing) = expect-takes a.1 sign.CloseBrace v close-is in
    along (IsBlock (suc left) p) h (record {
      spelling = Block.Braces (lines_of (l ∷ l' ∷ [])) s.spelling;
      lawful = s.lawful;
      fits = s.fits;
      tokens = opening.tokens ∙ ap (λ z. sign_at sign.OpenBrace l ∷ z) (s.tokens ∙ ap (statements_in_front s.spelling) closing.tokens);
      is_tree = s.is_tree;
      instances = omega (arith, closing.instances, s.instances, opening.instances);
      few = λ few. omega (arith, closing.instances, s.few (omega (arith, opening.instances, few)));
    })

else-sound : (left : ℕ) → PartsBelow left → (p : Place) → front p ≡ next.Keyword key.Else → (x : List Statement × Place)
    → reading.other_branch left (reading.part_below left) p ≡ Read x → IsOtherwise left p x.0 x.1
unfolding reading.other_branch advance
else-sound left inside p first x h = go (sees_keyword key.If (advance p)) refl h
  where
    by-if : (left : ℕ) → PartsBelow left → front (advance p) ≡ next.Keyword key.If → and_then (opened left (advance p)) (λ _ q. reading.part_below left part.Branch q) ≡ Read x → IsOtherwise left p x.0 x.1
    by-if zero inside second h = let (o, open-is, h) = bound (opened zero (advance p)) _ x h in let (below, is, same) = opens zero (advance p) o open-is in absurd (cc)
    by-if (suc left) inside second h =
        let (l, other) = keyword-takes p key.Else first in
        let (o, open-is, h) = bound (opened (suc left) (advance p)) _ x h in
        let (below, is, same) = opens (suc left) (advance p) o open-is in
        let alone = inside.1 o.1 (ap front same ∙ second) x h in
        let b = alone.branch in
        let to : (advance p).rest ≡ word (codes "if") b.line ∷ branch_in_front b.spelling x.1.rest = sym (ap (λ (z : Place). z.rest) same) ∙ b.tokens in
        record {
          spelling = Otherwise.ElseIf (lines_of (l ∷ b.line ∷ [])) b.spelling;
          lawful = b.lawful;
          fits = b.fits;
          tokens = other.tokens ∙ ap (λ z. word (codes "else") l ∷ z) to;
          is_tree = ap (λ d. at_line b.line d ∷ []) b.is_tree ∙ ap (λ n. at_line n alone.does ∷ []) (sym (ap line_of b.tokens)) ∙ alone.is_list;
          instances = omega (arith, b.instances, ap (λ (z : Place). z.instances) same);
          few = λ few. b.few (omega (arith, ap (λ (z : Place). z.instances) same, few));
        }

    go : (c : Bool) → sees_keyword key.If (advance p) ≡ c
        → cond c (and_then (opened left (advance p)) (λ _ q. reading.part_below left part.Branch q)) (reading.block left (reading.part_below left) (advance p)) ≡ Read x → IsOtherwise left p x.0 x.1
    go true is h = by-if left inside (sees-keyword (advance p) key.If is) h
    go false is h =
        let (l, other) = keyword-takes p key.Else first in
        let b = block-sound left inside (advance p) x h in
        record {
          spelling = Otherwise.Else l b.spelling;
          lawful = b.lawful;
          fits = b.fits;
          tokens = other.tokens ∙ ap (λ z. word (codes "else") l ∷ z) b.tokens;
          is_tree = b.is_tree;
          instances = b.instances;
          few = b.few;
        }

otherwise-sound : (left : ℕ) → PartsBelow left → (p : Place) (x : List Statement × Place) → reading.otherwise left (reading.part_below left) p ≡ Read x → IsOtherwise left p x.0 x.1
unfolding reading.otherwise
otherwise-sound left inside p x h = go (sees_keyword key.Else p) refl h
  where
    go : (c : Bool) → sees_keyword key.Else p ≡ c → cond c (reading.other_branch left (reading.part_below left) p) (Read ([], p)) ≡ Read x → IsOtherwise left p x.0 x.1
    go true is h = else-sound left inside p (sees-keyword p key.Else is) x h
    go false is h = along (IsOtherwise left p) h (record {
      spelling = Otherwise.Nothing;
      lawful = tt;
      fits = tt;
      tokens = refl;
      is_tree = refl;
      instances = omega arith;
      few = λ few. few;
    })

branch-sound : (left : ℕ) → PartsBelow left → (p : Place) → front p ≡ next.Keyword key.If → (x : What × Place) → reading.branch left (reading.part_below left) p ≡ Read x → IsBranch left p x.0 x.1
unfolding reading.branch advance
branch-sound zero inside p first x h =
    let (u, open-is, h) = bound (opened_by sign.OpenParen zero (advance p)) _ x h in
    let (deeper, is, l, opening) = opened_by-takes sign.OpenParen zero (advance p) u open-is in absurd (cc)
branch-sound (suc left) inside p first x h =
    let (l, iff) = keyword-takes p key.If first in
    let (u, open-is, h) = bound (opened_by sign.OpenParen (suc left) (advance p)) _ x h in
    let (deeper, is, l0, opening) = opened_by-takes sign.OpenParen (suc left) (advance p) u open-is in
    let (e, test-is, h) = bound (assignments.value_inside (suc left) u.1) _ x h in
    let v = inside-sound left u.1 e test-is in
    let (c, close-is, h) = bound (expect sign.CloseParen e.1) _ x h in
    let (l1, closing) = expect-takes e.1 sign.CloseParen c close-is in
    let (b, block-is, h) = bound (reading.block (suc left) (reading.part_below (suc left)) c.1) _ x h in
    let s = block-sound (suc left) inside c.1 b block-is in
    let (o, other-is, h) = bound (reading.otherwise (suc left) (reading.part_below (suc left)) b.1) _ x h in
    let t = otherwise-sound (suc left) inside b.1 o other-is in
    along (IsBranch (suc left) p) h (record {
      line = l;
      spelling = Branch.Test (lines_of (l0 ∷ l1 ∷ [])) v.spelling s.spelling t.spelling;
      lawful = (v.lawful, s.lawful, t.lawful);
      fits = (v.small, s.fits, t.fits);
      tokens = iff.tokens ∙ ap (λ z. word (codes "if") l ∷ z) (opening.tokens ∙ ap (λ z. sign_at sign.OpenParen l0 ∷ z) (v.tokens ∙ ap (in_front v.spelling)
          (closing.tokens ∙ ap (λ z. sign_at sign.CloseParen l1 ∷ z) (s.tokens ∙ ap (block_in_front s.spelling) t.tokens))));
      is_tree = ap (λ a. what.If a (block_tree s.spelling) (otherwise_tree t.spelling)) v.is_tree ∙ ap (λ a. what.If e.0 a (otherwise_tree t.spelling)) s.is_tree ∙ ap (what.If e.0 b.0) t.is_tree;
      instances = omega (arith, t.instances, s.instances, closing.instances, v.instances, opening.instances);
      few = λ few. t.few (s.few (omega (arith, closing.instances, v.instances, opening.instances, few)));
    })

for-sound : (left : ℕ) → PartsBelow left → (p : Place) → front p ≡ next.Keyword key.For → (x : What × Place) → reading.turned left (reading.part_below left) (line_of p.rest) p ≡ Read x
    → IsWritten left p (at_line (line_of p.rest) x.0) x.1
unfolding reading.turned reading.head advance
for-sound zero inside p first x h =
    let (u, open-is, h) = bound (opened_by sign.OpenParen zero (advance p)) _ x h in
    let (deeper, is, l, opening) = opened_by-takes sign.OpenParen zero (advance p) u open-is in absurd (cc)
for-sound (suc left) inside p first x h =
    let (l, forr) = keyword-takes p key.For first in
    let (u, open-is, h) = bound (opened_by sign.OpenParen (suc left) (advance p)) _ x h in
    let (deeper, is, l1, opening) = opened_by-takes sign.OpenParen (suc left) (advance p) u open-is in
    let (d, head-is, h) = bound (reading.head left (line_of p.rest) u.1) _ x h in
    let (a, first-is, k) = bound (assignments.simple left u.1) _ d head-is in
    let one = simple-sound left u.1 a first-is in
    let (m, semi-is, k) = bound (expect sign.Semi a.1) _ d k in
    let (l2, semi) = expect-takes a.1 sign.Semi m semi-is in
    let (e, test-is, k) = bound (assignments.value left Whole m.1) _ d k in
    let v = value-sound left m.1 e test-is in
    let (m', semi'-is, k) = bound (expect sign.Semi e.1) _ d k in
    let (l3, semi') = expect-takes e.1 sign.Semi m' semi'-is in
    let (s, step-is, k) = bound (assignments.assignment left m'.1) _ d k in
    let step = assignment-sound left m'.1 s step-is in
    let same = read-is k in
    let (c, close-is, h) = bound (expect sign.CloseParen d.1) _ x h in
    let (l4, closing) = expect-takes d.1 sign.CloseParen c close-is in
    let (b, block-is, h) = bound (reading.block (suc left) (reading.part_below (suc left)) c.1) _ x h in
    let body = block-sound (suc left) inside c.1 b block-is in
    let number = ap line_of forr.tokens in
    along (λ does. IsWritten (suc left) p (at_line (line_of p.rest) does)) h (record {
      written = Written.For (lines_of (l ∷ l1 ∷ l2 ∷ l3 ∷ l4 ∷ [])) one.spelling v.spelling step.spelling body.spelling;
      lawful = (one.lawful, v.lawful, step.lawful, body.lawful);
      fits = ((one.fits, v.small, step.fits), body.fits);
      tokens = forr.tokens ∙ ap (λ z. word (codes "for") l ∷ z) (opening.tokens ∙ ap (λ z. sign_at sign.OpenParen l1 ∷ z) (one.tokens ∙ ap (form.simple_in_front one.spelling)
          (semi.tokens ∙ ap (λ z. sign_at sign.Semi l2 ∷ z) (v.tokens ∙ ap (in_front v.spelling) (semi'.tokens ∙ ap (λ z. sign_at sign.Semi l3 ∷ z) (step.tokens
          ∙ ap (form.assignment_in_front step.spelling) (ap (λ (z : Head × Place). z.1.rest) same ∙ closing.tokens ∙ ap (λ z. sign_at sign.CloseParen l4 ∷ z) body.tokens)))))));
      is_tree = ap (λ n. at_line n (what.For (at_line n (form.simple_tree one.spelling)) (tree_in v.spelling) (at_line n (form.assignment_tree step.spelling)) (block_tree body.spelling))) (sym number)
          ∙ ap (λ f. at_line (line_of p.rest) (what.For f (tree_in v.spelling) (at_line (line_of p.rest) (form.assignment_tree step.spelling)) (block_tree body.spelling)))
          (ap (at_line (line_of p.rest)) one.is_tree ∙ ap (λ (z : Head × Place). z.0.first) same)
          ∙ ap (λ t. at_line (line_of p.rest) (what.For d.0.first t (at_line (line_of p.rest) (form.assignment_tree step.spelling)) (block_tree body.spelling)))
          (v.is_tree ∙ ap (λ (z : Head × Place). z.0.test) same)
          ∙ ap (λ t. at_line (line_of p.rest) (what.For d.0.first d.0.test t (block_tree body.spelling)))
          (ap (at_line (line_of p.rest)) step.is_tree ∙ ap (λ (z : Head × Place). z.0.step) same)
          ∙ ap (λ t. at_line (line_of p.rest) (what.For d.0.first d.0.test d.0.step t)) body.is_tree;
      instances = omega (arith, body.instances, closing.instances, ap (λ (z : Head × Place). z.1.instances) same, step.instances, semi'.instances, v.instances, semi.instances, one.instances, opening.instances);
      few = λ few. body.few (omega (arith, closing.instances, ap (λ (z : Head × Place). z.1.instances) same, step.instances, semi'.instances, v.instances, semi.instances, one.instances, opening.instances, few));
    })

statement-sound : (left : ℕ) → PartsBelow left → (p : Place) (x : Statement × Place) → reading.statement left (reading.part_below left) p ≡ Read x → IsWritten left p x.0 x.1
unfolding reading.statement reading.doing front_line
statement-sound left inside p x h =
    let (a, does-is, h) = bound (reading.statement_by left (reading.part_below left) (line_of p.rest) (front p) p) _ x h in
    along (IsWritten left p) h (go a (front p) refl does-is)
  where
    by-if : (a : What × Place) → IsBranch left p a.0 a.1 → IsWritten left p (at_line (line_of p.rest) a.0) a.1
    by-if a b = record {
      written = Written.If b.line b.spelling;
      lawful = b.lawful;
      fits = b.fits;
      tokens = b.tokens;
      is_tree = ap (at_line b.line) b.is_tree ∙ ap (λ l. at_line l a.0) (sym (ap line_of b.tokens));
      instances = b.instances;
      few = b.few;
    }

    go : (a : What × Place) (nx : Next) → front p ≡ nx → reading.statement_by left (reading.part_below left) (line_of p.rest) nx p ≡ Read a → IsWritten left p (at_line (line_of p.rest) a.0) a.1
    go a (next.Keyword key.If) is h = by-if a (branch-sound left inside p is a h)
    go a (next.Keyword key.For) is h = for-sound left inside p is a h
    go a (next.Keyword k) is h = short-sound left p a h
    go a other is h = short-sound left p a h

statements_from-sound : (left : ℕ) → PartsBelow left → (turns : ℕ) (found : List Statement) (p : Place) (x : List Statement × Place) → reading.statements_from left (reading.part_below left) turns found p ≡ Read x
    → (made : List Statement) × (x.0 ≡ found ++ made) × AreStatements left p made x.1
unfolding reading.statements_from
statements_from-sound left inside zero found p x h = absurd (cc)
statements_from-sound left inside (suc turns) found p x h = go (sees sign.CloseBrace p) h (λ f q y. statements_from-sound left inside turns f q y)
  where
    go : (c : Bool) → cond c (Read (found, p)) (and_then (reading.statement left (reading.part_below left) p) (λ s q. reading.statements_from left (reading.part_below left) turns (found ++ s ∷ []) q)) ≡ Read x
        → ((f : List Statement) (q : Place) (y : List Statement × Place) → reading.statements_from left (reading.part_below left) turns f q ≡ Read y → (made : List Statement) × (y.0 ≡ f ++ made) × AreStatements left q made y.1)
        → (made : List Statement) × (x.0 ≡ found ++ made) × AreStatements left p made x.1
    go true h later =
        let same = read-is h in (
          [],
          sym (ap (λ y. y.0) same) ∙ sym (append-nil found),
          subst (AreStatements left p []) (ap (λ y. y.1) same) (record {
            spelling = Statements.Done;
            lawful = tt;
            fits = tt;
            tokens = refl;
            is_tree = refl;
            instances = omega arith;
            few = λ few. few;
          }),
        )
    go false h later =
        let (a, statement-is, h) = bound (reading.statement left (reading.part_below left) p) _ x h in
        let s = statement-sound left inside p a statement-is in
        let (made, all, others) = later (found ++ a.0 ∷ []) a.1 x h in (
          a.0 ∷ made,
          all ∙ append_assoc found (a.0 ∷ []) made,
          record {
            spelling = Statements.Then s.written others.spelling;
            lawful = (s.lawful, others.lawful);
            fits = (s.fits, others.fits);
            tokens = s.tokens ∙ ap (written_in_front s.written) others.tokens;
            is_tree = ap (λ z. z ∷ statements_tree others.spelling) s.is_tree ∙ ap (λ l. a.0 ∷ l) others.is_tree;
            instances = omega (arith, others.instances, s.instances);
            few = λ few. others.few (s.few few);
          },
        )

part-sound : (left : ℕ) → PartsBelow left → (p : Place) (x : List Statement × Place) → reading.part left (reading.part_below left) part.Statements p ≡ Read x → AreStatements left p x.0 x.1
part-sound left inside p x h =
    let (made, all, s) = statements_from-sound left inside (length p.rest) [] p x h in subst (λ l. AreStatements left p l x.1) (sym all) s

alone-sound : (left : ℕ) → PartsBelow left → (p : Place) → front p ≡ next.Keyword key.If → (x : List Statement × Place) → reading.part left (reading.part_below left) part.Branch p ≡ Read x → IsAlone left p x.0 x.1
unfolding reading.alone front_line
alone-sound left inside p first x h =
    let (a, branch-is, h) = bound (reading.branch left (reading.part_below left) p) _ x h in
    along (IsAlone left p) h (record { does = a.0; branch = branch-sound left inside p first a branch-is; is_list = refl })

pub parts-sound : (left : ℕ) → PartsBelow left
unfolding reading.part_below
parts-sound zero = tt
parts-sound (suc left) = (part-sound left (parts-sound left), alone-sound left (parts-sound left))
