-- The children of a node, read from sound records.
use Rattle.std.proofs.Common.{◌≡◌, ◌≢◌, ℕ, ◌<◌, ◌≤◌, List, [], ◌∷◌, length, get_or, All, refl, sym, ap, ◌∙◌, arith}
use Rattle.std.specs.List.{between}
use Rattle.std.proofs.lemmas.List.{get_or_default}
use Rattle.std.proofs.lemmas.List.Elements.{All-same}
use Rattle.std.proofs.lemmas.Slice.{first_rest}
use Rattle.terms.specs.declared.term.Way.{Way}
use Rattle.diagram.specs.declared.limits.TheConstants.{FEWEST_CHILDREN, ARMS}
use Rattle.diagram.specs.declared.node.Form.{Form}
use Rattle.diagram.specs.declared.node.Form.TheVariants.{Part, Joined, Bridge}
use Rattle.diagram.specs.declared.node.Node.{Node}
use Rattle.diagram.specs.declared.table.Table.{Table}
use Rattle.diagram.specs.Records.{Sound, blank, form_at, children_at}
use Rattle.diagram.specs.WorkingOut.{InStore}

-- the form of a node, from a read of the table at any default
pub form_is : (t : Table) (k : ℕ) → k < length t.nodes → (n : Node) (form : Form) → (get_or t.nodes k n).form ≡ form → form_at t k ≡ form
form_is t k within n form is = ap (λ (m : Node). m.form) (get_or_default t.nodes k blank n within) ∙ is

-- what is no part, and not joined in series or in parallel, is a bridge
bridge_else : (form : Form) → form ≢ Part → ((way : Way) → form ≢ Joined way) → form ≡ Bridge
bridge_else Part other apart = absurd (other refl)
bridge_else (Joined way) other apart = absurd (apart way refl)
bridge_else Bridge other apart = refl

pub is_bridge : (t : Table) (k : ℕ) → k < length t.nodes → (n : Node) → form_at t k ≢ Part → ((way : Way) → (get_or t.nodes k n).form ≢ Joined way) → form_at t k ≡ Bridge
is_bridge t k within n other apart = bridge_else (form_at t k) other (λ way e. apart way (sym (form_is t k within n _ refl) ∙ e))

pub in_store : (t : Table) → Sound t → (k : ℕ) → k < t.count → InStore t k
in_store t sound k is_node = (omega (arith, is_node, sound.few), (sound.at k is_node).own.sized)

module _ (t : Table) (k : ℕ) (sound : Sound t) (is_node : k < t.count) (xs : List ℕ) (are : xs ≡ children_at t k) where
  pub children_in_store : All (InStore t) xs
  children_in_store = rw are (λ i d within.
      let below = (sound.at k is_node).own.children_below i d within in
      in_store t sound _ (omega (arith, below, is_node)))

  pub first_and_rest : 0 < length xs → All (InStore t) (get_or xs 0 0 ∷ between 1 (length xs) xs)
  first_and_rest some = All-same (InStore t) _ xs (sym (first_rest xs 0 some)) children_in_store

  pub joins_some : (way : Way) → form_at t k ≡ Joined way → FEWEST_CHILDREN ≤ length xs
  joins_some way is = rw are ((sound.at k is_node).own.joins_two_or_more way is)

  pub bridges_all : form_at t k ≡ Bridge → length xs ≡ ARMS
  bridges_all is = rw are ((sound.at k is_node).own.bridges_five is)

pub five : (xs : List ℕ) → length xs ≡ ARMS → xs ≡ get_or xs 0 0 ∷ get_or xs 1 0 ∷ get_or xs 2 0 ∷ get_or xs 3 0 ∷ get_or xs 4 0 ∷ []
five [] h = absurd (omega arith)
five (a ∷ []) h = absurd (omega arith)
five (a ∷ b ∷ []) h = absurd (omega arith)
five (a ∷ b ∷ c ∷ []) h = absurd (omega arith)
five (a ∷ b ∷ c ∷ d ∷ []) h = absurd (omega arith)
five (a ∷ b ∷ c ∷ d ∷ e ∷ []) h = refl
five (a ∷ b ∷ c ∷ d ∷ e ∷ x ∷ xs) h = absurd (omega arith)
