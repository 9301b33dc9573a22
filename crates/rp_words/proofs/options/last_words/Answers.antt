use Rattle.std.proofs.Common.{◌≡◌, ◌∙◌, Option, Some, None, ap, rules}
use Rattle.std.specs.Option.{IsSomeAnd}
use Rattle.clap.specs.Lexer.{usize_max}
use Rattle.clap.specs.declared.builder.arg.Arg.{Arg}
use Rattle.clap.specs.declared.builder.range.ValueRange.{ValueRange}
use Rattle.rp_words.proofs.options.last_words.Goals as goal

some_is : {X : Type 0} (o : Option X) (v : X) → IsSomeAnd o (λ x. x ≡ v) → o ≡ Some v
some_is None v h = absurd h
some_is (Some x) v h = ap (λ y. Some y) h

abbrev one_or_more : ValueRange
one_or_more = record { start_inclusive = 1; end_inclusive = usize_max }

pub returns-clause-rule : goal.returns-clause-rule
returns-clause-rule c =
    let number : c.num_args.result.num_vals ≡ Some one_or_more =
    some_is c.num_args.result.num_vals one_or_more c.num_args.ensures.1 in
    let before : Arg = c.action.result in
    let numbered : c.num_args.result ≡ record before { num_vals = Some one_or_more } =
    c.num_args.ensures.0 ∙ ap (λ (v : Option ValueRange). record before { num_vals = v }) number in
    search rules
