-- Steps that lead from one kind of machine to another one follow one another.
use Rattle.std.proofs.Common.{◌≡◌, [], ◌∷◌, ◌++◌, option_map, sym, subst, ◌∙◌, ap}
use Rattle.sk_spaces.specs.declared.step.Step.{Step}
use Rattle.sk_spaces.specs.Journal.{IsSame, with_step}
use Rattle.sk_spaces.specs.Machine.{Machine}
use Rattle.sk_spaces.specs.Rules.{IsLegal, after, after_all}
use Rattle.sk_spaces.specs.Memories.{is_far}
use Rattle.sk_spaces.specs.Spaces.{NotesStep}
use Rattle.sk_coherence_laws.specs.Directory.{DirectoryView}
use Rattle.sk_coherence_laws.specs.Traced.{IsLike}
use Rattle.sk_coherence_laws.specs.Steps.{Traces, goes_far, counted}
use Rattle.sk_coherence_laws.specs.Retires.{Leads}
use Rattle.sk_coherence_laws.proofs.TracesLemmas.{done-append, done-map, after_all-append, counted-append, told-append, told-none, told-one}

pub leads-trans : (P : Machine → Step → Type 0) (L K M : Machine → Type 0) (a b n : DirectoryView) → Leads P L K a b → Leads P K M b n → Leads P L M a n
leads-trans P L K M a b n x y = record {
  steps = x.steps ++ y.steps;
  told = y.told ∙ ap (option_map (λ done. done ++ y.steps)) x.told ∙ told-append a.spaces.journal.steps x.steps y.steps;
  done = λ m l. let p = x.done m l in let q = y.done (after_all m x.steps) p.1 in (
    done-append P m x.steps y.steps p.0 q.0,
    subst (λ (k : Machine). M k) (sym (after_all-append m x.steps y.steps)) q.1,
  );
  counted_all = λ m l. let p = x.done m l in
      y.counted_all (after_all m x.steps) p.1 ∙ ap (counted (after_all m x.steps) y.steps) (x.counted_all m l)
      ∙ sym (counted-append m x.steps y.steps a.spaces.journal.totals);
}

pub leads-map : (P Q : Machine → Step → Type 0) (L K : Machine → Type 0) (a b : DirectoryView)
    → ((m : Machine) (step : Step) → P m step → Q m step) → Leads P L K a b → Leads Q L K a b
leads-map P Q L K a b more x = record {
  steps = x.steps;
  told = x.told;
  done = λ m l. let p = x.done m l in (done-map P Q more m x.steps p.0, p.1);
  counted_all = x.counted_all;
}

pub leads-none : (P : Machine → Step → Type 0) (L K : Machine → Type 0) (d n : DirectoryView) → IsSame d.spaces.journal n.spaces.journal
    → ((m : Machine) → L m → K m) → Leads P L K d n
leads-none P L K d n same more = record {
  steps = [];
  told = same.steps ∙ told-none d.spaces.journal.steps;
  done = λ m l. (tt, more m l);
  counted_all = λ m l. same.totals;
}

pub leads-one : (P : Machine → Step → Type 0) (L K : Machine → Type 0) (d n : DirectoryView) (step : Step) → NotesStep d.spaces n.spaces step
    → ((m : Machine) → L m → IsLegal m step × K (after m step)) → ((m : Machine) → L m → P m step)
    → ((m : Machine) → L m → goes_far m step ≡ is_far d.spaces.memories step) → Leads P L K d n
leads-one P L K d n step noted leads why far = record {
  steps = step ∷ [];
  told = noted.steps ∙ told-one d.spaces.journal.steps step;
  done = λ m l. let t = leads m l in ((t.0, why m l, tt), t.1);
  counted_all = λ m l. noted.totals ∙ ap (λ b. with_step step b d.spaces.journal.totals) (sym (far m l));
}

pub traces-leads : (P : Machine → Step → Type 0) (a b : DirectoryView) → Leads P (λ m. IsLike m a) (λ m. IsLike m b) a b → Traces P a b
traces-leads P a b x = record { steps = x.steps; told = x.told; done = x.done; counted_all = x.counted_all }

pub leads-traces : (P : Machine → Step → Type 0) (a b : DirectoryView) → Traces P a b → Leads P (λ m. IsLike m a) (λ m. IsLike m b) a b
leads-traces P a b x = record { steps = x.steps; told = x.told; done = x.done; counted_all = x.counted_all }

pub leads-end : (P : Machine → Step → Type 0) (L K M : Machine → Type 0) (a b : DirectoryView) → ((m : Machine) → K m → M m) → Leads P L K a b → Leads P L M a b
leads-end P L K M a b more x = record {
  steps = x.steps;
  told = x.told;
  done = λ m l. let p = x.done m l in (p.0, more (after_all m x.steps) p.1);
  counted_all = x.counted_all;
}
