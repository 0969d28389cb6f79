-- What a family of encodings that share a decoder needs of the index files.
use Rattle.std.specs.Prelude.{List, [], ◌∷◌}
use Rattle.index_loader.specs.declared.family.Family.{Family}
use Rattle.index_loader.specs.declared.family.Family.TheVariants as of

-- what a family needs, in a row
abbrev pub needed : {A : Type 0} → Family A → List A
needed of.Utf8 = []
needed (of.SingleByte index) = index ∷ []
needed (of.Gb18030 index ranges) = index ∷ ranges ∷ []
needed (of.Pair encoding index) = index ∷ []
needed (of.EucJp jis0208 jis0212) = jis0208 ∷ jis0212 ∷ []
needed (of.Iso2022Jp jis0208 katakana) = jis0208 ∷ katakana ∷ []
needed of.Replacement = []
needed of.Utf16Be = []
needed of.Utf16Le = []
needed of.XUserDefined = []

-- the same family with each index replaced
abbrev pub family_map : {A B : Type 0} → (A → B) → Family A → Family B
family_map f of.Utf8 = of.Utf8
family_map f (of.SingleByte index) = of.SingleByte (f index)
family_map f (of.Gb18030 index ranges) = of.Gb18030 (f index) (f ranges)
family_map f (of.Pair encoding index) = of.Pair encoding (f index)
family_map f (of.EucJp jis0208 jis0212) = of.EucJp (f jis0208) (f jis0212)
family_map f (of.Iso2022Jp jis0208 katakana) = of.Iso2022Jp (f jis0208) (f katakana)
family_map f of.Replacement = of.Replacement
family_map f of.Utf16Be = of.Utf16Be
family_map f of.Utf16Le = of.Utf16Le
family_map f of.XUserDefined = of.XUserDefined
