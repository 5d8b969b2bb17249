-- What is written to the table is what a joining, a restating and a collecting are to change.
use Rattle.std.proofs.Common.{◌≡◌, ◌≢◌, ℕ, ◌+◌, ◌<◌, List, [], Contains, length, take, get_or, set, false, cond, Some, sym, ◌∙◌, ap, refl, subst, arith, inl, inr, ◌==◌}
use Rattle.std.specs.List.{list_any}
use Rattle.std.proofs.lemmas.Bool.{cases_eq, cases_Bool}
use Rattle.std.proofs.lemmas.List.{get_or-set_same, get_or-set_other}
use Rattle.diagram.specs.declared.node.Form.{Form}
use Rattle.diagram.specs.declared.node.Node.{Node}
use Rattle.diagram.specs.declared.table.Table.{Table}
use Rattle.diagram.specs.Nodes.{joined_by}
use Rattle.diagram.specs.Records.{blank, node_at}
use Rattle.diagram.specs.Changes.{NodeJoined, PartRestated, NodeCollected}
use Rattle.diagram.specs.Writing.{UserSet, MarkedAbove, with_collected}
use Rattle.diagram.proofs.FoundByTest.{test_finds, found_by_test}

none_finds : (q : ℕ) (ks : List ℕ) → ¬ Contains ks q → list_any (λ c. q == c) ks ≡ false
none_finds q ks n = elim (cases_Bool (list_any (λ c. q == c) ks)) [ inl e ↦ absurd (n (found_by_test q ks e)) | inr e ↦ e ]

pub joined_written : (t set_to : Table) (form : Form) (named row : List ℕ) →
    t.count < length t.nodes → t.count < length t.children → t.count < length t.arities → UserSet t set_to named t.count → take (length named) row ≡ named →
    NodeJoined t (record { nodes = set set_to.nodes t.count (joined_by form); children = set set_to.children t.count row; arities = set set_to.arities t.count (length named); count = t.count + 1 }) form named
joined_written t set_to form named row wide_n wide_c wide_a u fits = record {
  number = refl;
  record_made = get_or-set_same set_to.nodes t.count _ _ (omega (arith, wide_n, u.rest.nodes));
  names_them =
      ap (λ n. take n (get_or (set set_to.children t.count row) t.count [])) (get_or-set_same set_to.arities t.count _ _ (omega (arith, wide_a, ap length u.rest.arities)))
      ∙ ap (take (length named)) (get_or-set_same set_to.children t.count row [] (omega (arith, wide_c, ap length u.rest.children)))
      ∙ fits;
  used = λ j h i. old j h ∙ u.nodes j ∙ ap (λ b. cond b (record (node_at t j) { user = Some t.count }) (node_at t j)) (test_finds j named i);
  others = λ j h n. old j h ∙ u.nodes j ∙ ap (λ b. cond b (record (node_at t j) { user = Some t.count }) (node_at t j)) (none_finds j named n);
  children = λ j h.
      ap (λ n. take n (get_or (set set_to.children t.count row) j [])) (get_or-set_other set_to.arities t.count j _ _ (before j h) ∙ ap (λ z. get_or z j 0) u.rest.arities)
      ∙ ap (take (get_or t.arities j 0)) (get_or-set_other set_to.children t.count j row [] (before j h) ∙ ap (λ z. get_or z j []) u.rest.children);
}
  where
    before : (j : ℕ) → j < t.count → j ≢ t.count
    before j h e = omega (arith, h, e)

    old : (j : ℕ) → j < t.count → get_or (set set_to.nodes t.count (joined_by form)) j blank ≡ node_at set_to j
    old j h = get_or-set_other set_to.nodes t.count j _ _ (before j h)

-- a node of t or k itself, seen by what does not look at the written field
elsewhere : {A : Type 0} (ns : List Node) (k : ℕ) (n : Node) → k < length ns → (f : Node → A) → f n ≡ f (get_or ns k blank) → (j : ℕ) → f (get_or (set ns k n) j blank) ≡ f (get_or ns j blank)
elsewhere ns k n h f blind j = elim (cases_eq j k) [
  | inl e ↦ subst (λ z. f (get_or (set ns k n) z blank) ≡ f (get_or ns z blank)) (sym e) (ap f (get_or-set_same ns k n _ h) ∙ blind)
  | inr e ↦ ap f (get_or-set_other ns k j n _ e)
]

pub restated_written : (t marked : Table) (k size : ℕ) → k < length t.nodes → MarkedAbove t marked k →
    PartRestated t (record marked { nodes = set marked.nodes k (record (node_at marked k) { size = size }) }) k size
restated_written t marked k size high m = record {
  number = m.rest.count;
  resized = ap (λ (n : Node). n.size) (get_or-set_same marked.nodes k _ _ wide);
  stale = λ j h. (
    λ x. (m.stale j h).0 (sym (same (λ n. n.status) refl j) ∙ x),
    λ x. same (λ n. n.status) refl j ∙ (m.stale j h).1 x,
  );
  sizes = λ j h n. ap (λ (x : Node). x.size) (get_or-set_other marked.nodes k j _ _ n) ∙ ap (λ (x : Node). x.size) (m.others j);
  forms = λ j h. same (λ n. n.form) refl j ∙ ap (λ (x : Node). x.form) (m.others j);
  users = λ j h. same (λ n. n.user) refl j ∙ ap (λ (x : Node). x.user) (m.others j);
  children = λ j h. ap (λ n. take n (get_or marked.children j [])) (ap (λ z. get_or z j 0) m.rest.arities) ∙ ap (λ z. take (get_or t.arities j 0) (get_or z j [])) m.rest.children;
}
  where
    wide : k < length marked.nodes
    wide = omega (arith, high, m.rest.nodes)

    same : {A : Type 0} (f : Node → A) → f (record (node_at marked k) { size = size }) ≡ f (node_at marked k) → (j : ℕ) → f (get_or (set marked.nodes k (record (node_at marked k) { size = size })) j blank) ≡ f (node_at marked j)
    same f blind j = elsewhere marked.nodes k _ wide f blind j

pub collected_written : (t : Table) (k size : ℕ) → k < length t.nodes → NodeCollected t (with_collected t k size) k size
collected_written t k size high = record {
  number = refl;
  collected = get_or-set_same t.nodes k _ _ high;
  others = λ j h n. get_or-set_other t.nodes k j _ _ n;
  children = λ j h. refl;
}
