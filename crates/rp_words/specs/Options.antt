-- What each command takes behind its first word, as it is told to `clap`, and what that gives each argument (crate
-- clap, the builder and the matches of a simple command). No command has a flag for help or for its version, and the
-- first word is no longer there.
use Rattle.std.specs.Prelude.{ℕ, true, List, [], ◌∷◌, codes, fold, if◌then◌else◌, Option, Some, None}
use Rattle.clap.specs.Faults.{fault_of}
use Rattle.clap.specs.Lexer.{usize_max}
use Rattle.clap.specs.Simple.{App, matches_of, new_app, new_rule, on_top, with_rule}
use Rattle.clap.specs.Walk.{Row, Rule, is_empty}
use Rattle.clap.specs.declared.builder.action.ArgAction.TheVariants.{Set, Append, SetTrue}

-- a word that has to be there
abbrev pub positional : List ℕ → Rule
positional id = record (new_rule id) { action = Some Set; required = true }

-- the last words, one or more
abbrev pub last_words : List ℕ → Rule
last_words id = record (new_rule id) {
  action = Some Append;
  range = Some (record { start_inclusive = 1; end_inclusive = usize_max });
  required = true;
}

-- `--id VALUE`, at most once
abbrev pub option : List ℕ → Rule
option id = record (new_rule id) { long = Some id; action = Some Set }

-- `--id`, at most once
abbrev pub flag : List ℕ → Rule
flag id = record (new_rule id) { long = Some id; action = Some SetTrue }

abbrev pub bare_command : List ℕ → App
bare_command name =
    on_top (λ s. record s { no_binary_name = true; disable_help_flag = true; disable_version_flag = true })
    (new_app name)

abbrev pub command_with : List ℕ → List Rule → App
command_with name rules = fold with_rule (bare_command name) rules

-- `run DECL WHO:SCRIPT... [--steps N] [--cells N] [--turns LIST] [--trail]`
abbrev pub run_command : App
run_command = command_with (codes "run") (positional (codes "declarations")
    ∷ last_words (codes "pairs")
    ∷ option (codes "steps")
    ∷ option (codes "cells")
    ∷ option (codes "turns")
    ∷ flag (codes "trail")
    ∷ [])

-- `check SCRIPT` and `show SCRIPT`
abbrev pub script_command : App
script_command = command_with (codes "script") (positional (codes "script") ∷ [])

-- `may DECL WHO PERMISSION`
abbrev pub may_command : App
may_command = command_with (codes "may") (positional (codes "declarations")
    ∷ positional (codes "who")
    ∷ positional (codes "permission")
    ∷ [])

-- `large N`
abbrev pub large_command : App
large_command = command_with (codes "large") (positional (codes "number") ∷ [])

-- the matches of a command, where it takes the words
abbrev pub given : App → List (List ℕ) → Option (List Row)
given command words = if is_empty (fault_of command words) then Some (matches_of command words) else None
