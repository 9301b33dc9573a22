-- What holds whatever names there are more.
use Rattle.std.proofs.Common.{◌∙◌, sym, ap, subst, ℕ, List, ◌++◌, append_assoc}
use Rattle.rp_base.specs.Names.{GrowsTo}

pub grown-at : (old new more : List (List ℕ)) (P : List (List ℕ) → Type 0) → GrowsTo old new → ((further : List (List ℕ)) → P (old ++ further)) → P (new ++ more)
grown-at old new more P grown all = subst P (sym (ap (λ names. names ++ more) grown.1 ∙ append_assoc old grown.0 more)) (all (grown.0 ++ more))

pub grown-on : (old mid new : List (List ℕ)) → GrowsTo old mid → GrowsTo mid new → GrowsTo old new
grown-on old mid new one other = (one.0 ++ other.0, other.1 ∙ ap (λ names. names ++ other.0) one.1 ∙ append_assoc old one.0 other.0)
