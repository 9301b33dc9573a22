use Rattle.std.proofs.Common.{◌≡◌, encode_utf8_all, filter_map, slice_get, string_bytes}
use Rattle.std.specs.List.{range_with_len}
use Rattle.rp_items.specs.SliceView.{place_at}
use Rattle.rp_items.proofs.letters.spelled_ascii.Given as goal

-- the characters at the places so far
abbrev pub invariant-loop-m : goal.invariant-loop-m
invariant-loop-m l = string_bytes l.text ≡ encode_utf8_all (filter_map (λ m. slice_get l.letters (place_at l.places m)) (range_with_len 0 l.m))
