-- The text of a conversion: docs/FORMATS.md, "Convert and verify".
use Rattle.std.specs.Prelude.{ℕ, ℤ, List, ◌++◌, Option, Some, None, codes, encode_utf8_all, slice_range}
use Rattle.std.specs.List.{flat_map}
use Rattle.std.specs.Fmt.{decimal, signed_decimal}
use Rattle.mz_base.specs.declared.conversion.Conversion.{Conversion}
use Rattle.mz_base.specs.declared.conversion.Segment.{Segment}
use Rattle.mz_base.specs.declared.lattice.Candidate.{Candidate}
use Rattle.cert_text.specs.Texts.{certificate_text}

-- a cost, and `-` where there is none
abbrev pub cost_text : Option ℤ → List ℕ
cost_text None = codes "-"
cost_text (Some cost) = signed_decimal cost

-- a candidate's cost and value
abbrev pub candidate_text : Candidate → List ℕ
candidate_text candidate =
    codes "candidate\t" ++ (cost_text candidate.cost ++ (codes "\t" ++ (encode_utf8_all candidate.value ++ codes "\n")))

-- a segment's begin and end, its part of the key, and its candidates
abbrev pub segment_text : List ℕ → Segment → List ℕ
segment_text key segment =
    codes "segment\t" ++ (decimal segment.begin ++ (codes "\t" ++ (decimal segment.end ++ (codes "\t" ++ (encode_utf8_all (slice_range key segment.begin segment.end) ++ (codes "\n" ++ flat_map candidate_text segment.candidates))))))

-- the lines of the certificate, and then the segments
abbrev pub conversion_text : List ℕ → Conversion → List ℕ
conversion_text key conversion =
    certificate_text conversion.certificate ++ flat_map (segment_text key) conversion.segments
