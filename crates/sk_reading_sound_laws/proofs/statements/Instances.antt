-- What is read as an instance's declaration has a lawful spelling that keeps the limits.
use Rattle.std.proofs.Common.{◌≡◌, ℕ, ◌+◌, ◌<◌, ◌≤◌, Bool, true, false, cond, nat_lt, List, [], ◌∷◌, ◌++◌, length, drop, ℤ, Some, IsTrue, codes, refl, ap, sym, subst, ◌∙◌, arith, rules}
use Rattle.sk_base.specs.declared.number.Ty.{Ty}
use Rattle.sk_grammar.specs.ExpressionSpelling.{sign_at, word, with_commas}
use Rattle.sk_grammar.specs.Limits.{Opened, Flat}
use Rattle.sk_grammar.specs.Signs.{meant_by, skeleton_words}
use Rattle.sk_grammar.specs.StatementSpelling as form
use Rattle.sk_grammar.specs.StatementSpelling.{Written, at_line}
use Rattle.sk_names.specs.Words.{is_name}
use Rattle.sk_refusals.specs.declared.refusal.Limited.TheVariants.{Instances}
use Rattle.sk_refusals.specs.declared.refusal.Refusal.TheVariants.{Many}
use Rattle.sk_tokens.specs.declared.token.Sign.TheVariants as sign
use Rattle.sk_tree.specs.declared.tree.Skeleton.{Skeleton}
use Rattle.sk_tree.specs.declared.tree.What.{What}
use Rattle.sk_tree.specs.declared.tree.What.TheVariants as what
use Rattle.sk_reading.specs.declared.next.Next.TheVariants as next
use Rattle.sk_reading.specs.declared.keyword.Keyword.TheVariants as key
use Rattle.sk_reading.specs.Reading.{Place, Read, Parser, and_then, refuse, front, advance, sees, after, expect, expect_keyword, name, word_in, number as number_read, count_instance, opened_by, line_of}
use Rattle.sk_reading.specs.ReadingForms as reading
use Rattle.sk_reading_sound_laws.proofs.Commas.{IsItem, AreItems, commas-sound}
use Rattle.sk_reading_sound_laws.proofs.Steps.{lines_of, bound, along, read-is, sign-takes, sees-sign, expect-takes, name-takes, word_in-takes, number-takes, keyword-takes, expect_keyword-takes, same-most, opened_by-takes}
use Rattle.sk_reading_sound_laws.proofs.statements.Started.{Started}

number-sound : (p : Place) (x : (Ty × ℤ) × Place) → number_read p ≡ Read x → IsItem form.a_number (λ w. w.2) (λ w. Unit {0}) p x.0.1 x.1
number-sound p x h =
    let (line, takes) = number-takes p x h in
    record { written = (line, x.0.0, x.0.1); lawful = tt; tokens = takes.tokens; is_tree = refl; instances = takes.instances }

numbers_from-sound : (turns : ℕ) (found : List ℤ) (p : Place) (x : List ℤ × Place) → reading.numbers_from turns found p ≡ Read x
    → (made : List ℤ) × (x.0 ≡ found ++ made) × AreItems form.a_number (λ w. w.2) (λ w. Unit {0}) p made x.1
unfolding reading.numbers_from
numbers_from-sound =
    commas-sound form.a_number (λ w. w.2) (λ w. Unit {0}) number_read (λ w. w.1) reading.numbers_from (λ found p. refl, λ turns found p. refl) number-sound

name-sound : (p : Place) (x : List ℕ × Place) → name p ≡ Read x → IsItem form.a_name (λ w. w.1) (λ w. IsTrue (is_name w.1)) p x.0 x.1
name-sound p x h =
    let (line, free, takes) = name-takes p x h in
    record { written = (line, x.0); lawful = free; tokens = takes.tokens; is_tree = refl; instances = takes.instances }

names_from-sound : (turns : ℕ) (found : List (List ℕ)) (p : Place) (x : List (List ℕ) × Place) → reading.names_from turns found p ≡ Read x
    → (made : List (List ℕ)) × (x.0 ≡ found ++ made) × AreItems form.a_name (λ w. w.1) (λ w. IsTrue (is_name w.1)) p made x.1
unfolding reading.names_from
names_from-sound =
    commas-sound form.a_name (λ w. w.1) (λ w. IsTrue (is_name w.1)) name (λ w. w) reading.names_from (λ found p. refl, λ turns found p. refl) name-sound

numbers-sound : (p : Place) (x : List ℤ × Place) → reading.numbers p ≡ Read x
    → (ns : form.Numbers) × form.AreLawfulNumbers ns × (form.numbers_tree ns ≡ x.0) × (p.rest ≡ form.numbers_in_front ns x.1.rest) × (x.1.instances ≡ p.instances)
unfolding reading.numbers after
numbers-sound p x h = go (sees sign.Lt p) refl h
  where
    go : (b : Bool) → sees sign.Lt p ≡ b
        → cond {A = Parser (List ℤ)} b (λ r. and_then (reading.numbers_from (length r.rest) [] r) (λ found q. and_then (expect sign.Gt q) (λ _ q. Read (found, q)))) (λ r. Read ([], r)) (cond b (advance p) p) ≡ Read x
        → (ns : form.Numbers) × form.AreLawfulNumbers ns × (form.numbers_tree ns ≡ x.0) × (p.rest ≡ form.numbers_in_front ns x.1.rest) × (x.1.instances ≡ p.instances)
    go false is h =
        let same = read-is h in
        (form.Numbers.NoNumbers, tt, ap (λ y. y.0) same, ap (λ (y : List ℤ × Place). y.1.rest) same, sym (ap (λ (y : List ℤ × Place). y.1.instances) same))
    go true is h =
        let (line, opening) = sign-takes p sign.Lt (sees-sign p sign.Lt is) in
        let (a, numbers-are, h) = bound (reading.numbers_from (length (advance p).rest) [] (advance p)) _ x h in
        let (made, all, s) = numbers_from-sound (length (advance p).rest) [] (advance p) a numbers-are in
        let (u, gt-is, h) = bound (expect sign.Gt a.1) _ x h in
        let (line', closing) = expect-takes a.1 sign.Gt u gt-is in
        let same = read-is h in (
          form.Numbers.Between (lines_of (line ∷ line' ∷ [])) s.written,
          s.some,
          s.are_trees ∙ sym all ∙ ap (λ y. y.0) same,
          opening.tokens ∙ ap (λ z. sign_at sign.Lt line ∷ z) (s.tokens ∙ ap (with_commas form.a_number s.written) (closing.tokens ∙ ap (λ (y : List ℤ × Place). sign_at sign.Gt line' ∷ y.1.rest) same)),
          sym (ap (λ (y : List ℤ × Place). y.1.instances) same) ∙ closing.instances ∙ s.instances ∙ opening.instances,
        )

record CountsInstance (p q : Place) : Type 0 where
  rest : q.rest ≡ p.rest
  instances : q.instances ≡ p.instances + 1
  few : q.instances ≤ 1024

counts-instance : (p : Place) (x : Unit {0} × Place) → count_instance p ≡ Read x → CountsInstance p x.1
unfolding count_instance
counts-instance p x h = go (nat_lt p.instances 1024) refl h
  where
    go : (b : Bool) → nat_lt p.instances 1024 ≡ b → cond b (Read (tt, record p { instances = p.instances + 1 })) (refuse (Many Instances) p) ≡ Read x → CountsInstance p x.1
    go true is h =
        let below : p.instances < 1024 = search (rules, is) in
        along (λ _. CountsInstance p) h (record { rest = refl; instances = refl; few = omega arith })
    go false is h = absurd (cc)

-- an instance's declaration up to its skeleton
record HasSkeleton (p : Place) (w : List ℕ) (k : Skeleton) (q : Place) : Type 0 where
  kw : List ℕ
  l0 : ℕ
  l1 : ℕ
  l2 : ℕ
  l3 : ℕ
  l4 : ℕ
  l5 : ℕ
  free : IsTrue (is_name w)
  meant : meant_by skeleton_words kw ≡ Some k
  tokens : p.rest ≡ word (codes "auto") l0 ∷ word w l1 ∷ sign_at sign.Eq l2 ∷ word (codes "skepu") l3 ∷ sign_at sign.Path l4 ∷ word kw l5 ∷ q.rest
  instances : q.instances ≡ p.instances + 1
  few : q.instances ≤ 1024

abbrev instance_rest : (left : ℕ) (w : List ℕ) (k : Skeleton) → Parser What
instance_rest left w k = λ q. and_then (reading.numbers q) (λ counts r. and_then (opened_by sign.OpenParen left r) (λ _ r. and_then (reading.names r) (λ functions r.
    and_then (expect sign.CloseParen r) (λ _ r. Read (what.Instance (record { name = w; skeleton = k; numbers = counts; functions = functions }), r)))))

skeleton-sound : (left : ℕ) (p : Place) → front p ≡ next.Keyword key.Auto → (x : What × Place) → reading.instance left p ≡ Read x
    → (w : List ℕ) × (k : Skeleton) × (q : Place) × HasSkeleton p w k q × (instance_rest left w k q ≡ Read x)
unfolding reading.instance advance
skeleton-sound left p first x h =
    let (l0, auto) = keyword-takes p key.Auto first in
    let (c, count-is, h) = bound (count_instance p) _ x h in
    let counts = counts-instance p c count-is in
    let (w, name-is, h) = bound (name (advance c.1)) _ x h in
    let (l1, free, naming) = name-takes (advance c.1) w name-is in
    let (u2, eq-is, h) = bound (expect sign.Eq w.1) _ x h in
    let (l2, eq) = expect-takes w.1 sign.Eq u2 eq-is in
    let (u3, skepu-is, h) = bound (expect_keyword key.Skepu u2.1) _ x h in
    let (l3, skepu) = expect_keyword-takes u2.1 key.Skepu u3 skepu-is in
    let (u4, path-is, h) = bound (expect sign.Path u3.1) _ x h in
    let (l4, path) = expect-takes u3.1 sign.Path u4 path-is in
    let (k, kind-is, h) = bound (word_in skeleton_words u4.1) _ x h in
    let (l5, kw, meant, kind) = word_in-takes skeleton_words u4.1 k kind-is in
    let of-taken : k.1.instances ≡ c.1.instances = kind.instances ∙ path.instances ∙ skepu.instances ∙ eq.instances ∙ naming.instances in (
      w.0,
      k.0,
      k.1,
      record {
        kw = kw;
        l0 = l0;
        l1 = l1;
        l2 = l2;
        l3 = l3;
        l4 = l4;
        l5 = l5;
        free = free;
        meant = meant;
        tokens = auto.tokens ∙ ap (λ z. word (codes "auto") l0 ∷ z) (sym (ap (drop 1) counts.rest) ∙ naming.tokens ∙ ap (λ z. word w.0 l1 ∷ z) (eq.tokens ∙ ap (λ z. sign_at sign.Eq l2 ∷ z)
            (skepu.tokens ∙ ap (λ z. word (codes "skepu") l3 ∷ z) (path.tokens ∙ ap (λ z. sign_at sign.Path l4 ∷ z) kind.tokens))));
        instances = of-taken ∙ counts.instances;
        few = same-most k.1.instances c.1.instances of-taken counts.few;
      },
      h,
    )

rest-sound : (left : ℕ) (p : Place) (w : List ℕ) (k : Skeleton) (q : Place) → HasSkeleton p w k q → (x : What × Place) → instance_rest left w k q ≡ Read x → Started left p x.0 x.1
unfolding reading.names
rest-sound left p w k q s x h =
    let (ns, numbers-are, h) = bound (reading.numbers q) _ x h in
    let (counted, lawful, tree-is, to, of-numbers) = numbers-sound q ns numbers-are in
    let (u6, open-is, h) = bound (opened_by sign.OpenParen left ns.1) _ x h in
    let (inside, left-is, l6, opening) = opened_by-takes sign.OpenParen left ns.1 u6 open-is in
    let (fs, names-are, h) = bound (reading.names_from (length u6.1.rest) [] u6.1) _ x h in
    let (made, all, n) = names_from-sound (length u6.1.rest) [] u6.1 fs names-are in
    let (u7, close-is, h) = bound (expect sign.CloseParen fs.1) _ x h in
    let (l7, closing) = expect-takes fs.1 sign.CloseParen u7 close-is in
    let of-taken : u7.1.instances ≡ q.instances = closing.instances ∙ n.instances ∙ opening.instances ∙ of-numbers in
    along (Started left p) h (record {
      written = λ line. Written.Instantiate (lines_of (s.l0 ∷ s.l1 ∷ s.l2 ∷ s.l3 ∷ s.l4 ∷ s.l5 ∷ l6 ∷ l7 ∷ line ∷ [])) w s.kw k counted n.written;
      lawful = λ line. (s.free, s.meant, lawful, n.some, n.lawful);
      fits = λ line. subst (Opened Flat) (sym left-is) tt;
      tokens = λ line r is. s.tokens ∙ ap (λ z. word (codes "auto") s.l0 ∷ word w s.l1 ∷ sign_at sign.Eq s.l2 ∷ word (codes "skepu") s.l3 ∷ sign_at sign.Path s.l4 ∷ word s.kw s.l5 ∷ z)
          (to ∙ ap (form.numbers_in_front counted) (opening.tokens ∙ ap (λ z. sign_at sign.OpenParen l6 ∷ z)
          (n.tokens ∙ ap (with_commas form.a_name n.written) (closing.tokens ∙ ap (λ z. sign_at sign.CloseParen l7 ∷ z) is))));
      is_tree = λ line. ap (λ f. at_line s.l0 (what.Instance (record { name = w; skeleton = k; numbers = form.numbers_tree counted; functions = f }))) (n.are_trees ∙ sym all)
          ∙ ap (λ n. at_line s.l0 (what.Instance (record { name = w; skeleton = k; numbers = n; functions = fs.0 }))) tree-is
          ∙ ap (λ z. at_line z (what.Instance (record { name = w; skeleton = k; numbers = ns.0; functions = fs.0 }))) (sym (ap line_of s.tokens));
      instances = λ line. of-taken ∙ s.instances;
      few = λ few. same-most u7.1.instances q.instances of-taken s.few;
    })

pub instance-sound : (left : ℕ) (p : Place) → front p ≡ next.Keyword key.Auto → (x : What × Place) → reading.instance left p ≡ Read x → Started left p x.0 x.1
instance-sound left p first x h = let (w, k, q, s, h) = skeleton-sound left p first x h in rest-sound left p w k q s x h
