-- Lines in front of chunks.
use Rattle.std.proofs.Common.{◌≡◌, ℕ, ◌<◌, ◌≤◌, inr, List, length, drop, ap, ◌∙◌, arith, length-append}
use Rattle.httparse.specs.Grammar.{ChunkLine, print_chunk_line, chunk_size, HasNoChunkLine}
use Rattle.httparse.specs.Spans.{IsChunkLineAt}
use Rattle.httparse.proofs.ChunkLemmas.{chunk_line_unique}
use Rattle.http_message.specs.Lines.{IsLineAt, IsBadLine}

pub bad_from_long : (bytes : List ℕ) (len size : ℕ) (k : ChunkLine) → IsChunkLineAt bytes len size k → 256 < len → IsBadLine bytes
bad_from_long bytes len size k at long =
    inr (record {
      long = omega (arith, at.len_is, ap length at.reads.1, length-append (print_chunk_line k) (drop len bytes));
      none = λ line rest is.
          let same = (chunk_line_unique bytes k line _ rest at.reads (is.valid, is.spelled)).0 in
          let sized : len ≡ length (print_chunk_line line) = at.len_is ∙ ap (λ x. length (print_chunk_line x)) same in
          omega (arith, sized, is.short);
    })

pub bad_from_open : (bytes : List ℕ) → HasNoChunkLine bytes → 256 ≤ length bytes → IsBadLine bytes
bad_from_open bytes none long = inr (record { long = long; none = λ line rest is. none line rest (is.valid, is.spelled) })

pub line_here : (bytes : List ℕ) (len size : ℕ) (k : ChunkLine) → IsChunkLineAt bytes len size k → len ≤ 256
    → (line : ChunkLine) × IsLineAt bytes line (drop len bytes) × (len ≡ length (print_chunk_line line)) × (size ≡ chunk_size line)
line_here bytes len size k at short =
    (k, record { valid = at.reads.0; short = omega (arith, at.len_is); spelled = at.reads.1 }, at.len_is, at.size_is)
