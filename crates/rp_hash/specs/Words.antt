-- What a `WordHasher` computes: SipHash-1-3, where each write is one word.
use Rattle.std.specs.Prelude.{ℕ, ◌+◌, ◌*◌, ◌%◌, ◌^◌, ◌==◌, List, length, if◌then◌else◌, bit_xor, slice_index}
use Rattle.core.specs.Int.{w64, rotate_left}
use Rattle.core.specs.Hash.DefaultHasher as sip
use Rattle.core.specs.declared.hash.sip.DefaultHasher.{DefaultHasher}
use Rattle.rp_hash.specs.declared.hasher.WordHasher.{WordHasher}
use Rattle.rp_hash.specs.declared.seed.Seed.{Seed}

-- eight bytes as a number, the lowest first
abbrev pub read_u64 : List ℕ → ℕ
read_u64 bs =
    slice_index bs 0 + slice_index bs 1 * 256 + slice_index bs 2 * 65536 + slice_index bs 3 * 16777216
    + slice_index bs 4 * 4294967296 + slice_index bs 5 * 1099511627776 + slice_index bs 6 * 281474976710656 + slice_index bs 7 * 72057594037927936

-- the number of other bytes
abbrev pub of_text : DefaultHasher → List ℕ → ℕ
of_text start bs = sip.finish (sip.write start bs)

abbrev pub wrapping_add : ℕ → ℕ → ℕ
wrapping_add x y = (x + y) % 2 ^ 64

-- the state after one round
unfoldable pub round : WordHasher → WordHasher
round s =
    let a0 = wrapping_add s.v0 s.v1 in
    let a2 = wrapping_add s.v2 s.v3 in
    let a1 = bit_xor (rotate_left w64 s.v1 13) a0 in
    let a3 = bit_xor (rotate_left w64 s.v3 16) a2 in
    let b2 = wrapping_add a2 a1 in
    let b0 = wrapping_add (rotate_left w64 a0 32) a3 in
    record s { v0 = b0; v1 = bit_xor (rotate_left w64 a1 17) b2; v2 = rotate_left w64 b2 32; v3 = bit_xor (rotate_left w64 a3 21) b0 }

-- the state after a word
unfoldable pub write_word : WordHasher → ℕ → WordHasher
write_word s m =
    let t = round (record s { v3 = bit_xor s.v3 m }) in
    record t { v0 = bit_xor t.v0 m }

-- the state after `write(bs)`
abbrev pub write : WordHasher → List ℕ → WordHasher
write h bs =
    if length bs == 8 then write_word h (read_u64 bs)
    else (if length bs == 1 then write_word h (slice_index bs 0) else write_word h (of_text h.start bs))

-- what `finish` returns
unfoldable pub finish : WordHasher → ℕ
finish s =
    let u = round (round (round (record s { v2 = bit_xor s.v2 255 }))) in
    bit_xor (bit_xor (bit_xor u.v0 u.v1) u.v2) u.v3

-- the hasher that a seed makes
abbrev pub begun : Seed → WordHasher
begun s = record {
  v0 = bit_xor s.first 0x736f_6d65_7073_6575;
  v1 = bit_xor s.second 0x646f_7261_6e64_6f6d;
  v2 = bit_xor s.first 0x6c79_6765_6e65_7261;
  v3 = bit_xor s.second 0x7465_6462_7974_6573;
  start = sip.with_keys s.second s.first;
}
